-- Demands 2 and 3, proved as specs/Demands states them. Assumes nothing.
use Rattle.laws.specs.Leaves.{update_leaves_lem, update_rows, update_well, update_others, update-header, update_slices, meet_leaves_lem, meet_rows, meet_well, meet_others, meet-header, meet_records_first, meet_records_second, meet_records_first_well, meet_records_second_well, meet_records_owns}
use Rattle.laws.specs.Depends.{update_says_same, update-bytes_same, meet_says_same, compare_says_same, meet-bytes_same}
use Rattle.laws.specs.ReadWrite.{read_write, write_read_n, write_read_own, write_read_length, write_read_cells, write_read_beyond, write_read_rest}
use Rattle.demands.specs.OnTables.{check_well, update_done, lend_done, →related, compare_related, compare-unrelated, compare_itself, meet_done, meet-unrelated}
use Rattle.demands.specs.Listing.{list_refused, list_answers, list_below, list_ones, list-count}
use Rattle.demands.proofs.Listing.{list_bit}
use Rattle.demands.specs.OnRecords.{check_record_well, →related_pair, compare_records_related, compare_records_unrelated, meet_records_done, meet_records_unrelated, write_taken, written_read}
use Rattle.demands.specs.Viewed.{keeps}
use Rattle.demands.specs.Demands.{Demand2}

pub demand_2 : Demand2
demand_2 =
    record {
      check = check_well;
      check_record = check_record_well;
      update = λ {n} {t} w p h. record {
        says = update_done w p h;
        bytes = update_leaves_lem n t p w h;
        rows = update_rows n t p w h;
        well = update_well n t p w h;
        others = update_others n t p w h;
        header = update-header n t p w h;
        slices = update_slices n t p w h;
      };
      meet = λ {n} {t} w a b ha hb ne u.
          let r = →related w a b ha hb u in
          record {
            says = meet_done w a b ha hb ne u;
            bytes = meet_leaves_lem n t a b r ne;
            rows = meet_rows n t a b r ne;
            well = meet_well n t a b r ne;
            others = meet_others n t a b r ne;
            header = meet-header n t a b r ne;
          };
      meet-unrelated = meet-unrelated;
      compare = compare_related;
      compare-unrelated = compare-unrelated;
      compare_itself = compare_itself;
      kept = λ {n} {t} w c. keeps n t c w;
      depends = λ {n} {t} {u} w v. record {
        update-says = update_says_same n t u w v;
        update-bytes = update-bytes_same n t u w v;
        meet-says = meet_says_same n t u w v;
        meet-bytes = meet-bytes_same n t u w v;
        compare-says = compare_says_same n t u w v;
      };
      lend = lend_done;
      list = λ w. record {
        refuses = list_refused w;
        answers = list_answers w;
        bit = list_bit w;
        below = list_below w;
        count_ones = list_ones w;
        count_copies = list-count w;
      };
      meet_loose = λ {n} {a} {b} w v ne u.
          let r = →related_pair w v ne u in
          record {
            says = meet_records_done w v ne u;
            first = meet_records_first n a b r;
            second = meet_records_second n a b r;
            well = (meet_records_first_well n a b r, meet_records_second_well n a b r);
            owns = meet_records_owns n a b r;
          };
      compare_loose = compare_records_related;
      unrelated_loose = λ w v ne u. (meet_records_unrelated w v ne u, compare_records_unrelated w v ne u);
      write_read = λ b x i e.
          let a = write_taken b x e in (
            written_read b x i e,
            record {
              copies = write_read_n b x i a;
              own = write_read_own b x i a;
              lengths = write_read_length b x i a;
              cells = write_read_cells b x i a;
              beyond = write_read_beyond b x i a;
              beyond_cells = write_read_rest b x i a;
            },
          );
      read_written = λ {n} {r} w b e. read_write n r b w e;
    }
