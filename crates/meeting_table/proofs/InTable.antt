-- Both new records in their places, in either order, make the table that the meeting leaves. Assumes nothing.
use Rattle.std.proofs.Common.{◌≡◌, ◌∙◌, sym, ap, List, ℕ, ◌+◌, ◌*◌, ◌≤◌, ◌<◌, length}
use Rattle.parts.specs.Parts.{put, room}
use Rattle.model.specs.Steps.{met_table}
use Rattle.model.specs.Bytes.{record_size, record_bytes, table_bytes, record_in, table_rows}
use Rattle.laws.specs.Layout.{record_bytes_same, length-record_bytes}
use Rattle.laws.specs.RoundTrip.{record_fits}
use Rattle.laws.specs.MeetingKept.{met_table_first, met_table_second, met_table-other}
use Rattle.laws.specs.InPlace.{table_put_two}
use Rattle.meeting.specs.Pairs.{PairMet, first_met, second_met, first_formed, second_formed}
use Rattle.meeting_table.specs.Named.{Named, named_pair}

module _ {n a b : ℕ} {t : List ℕ} (w : Named n a b t) where
  pub fits : (c : ℕ) → c < n → c * record_size n + record_size n ≤ length t
  fits c less = rw w.well.size (room (record_size n) less)

  module _ {u v : List ℕ} (met : PairMet n a b (record_in n t a) (record_in n t b) u v) where
    pub first_long : length u ≡ record_size n
    first_long = ap length met.first ∙ length-record_bytes n a _ (record_fits (first_formed (named_pair w)))

    pub second_long : length v ≡ record_size n
    second_long = ap length met.second ∙ length-record_bytes n b _ (record_fits (second_formed (named_pair w)))

    first : record_bytes n a (met_table n a b (table_rows n t) a) ≡ u
    unfolding first_met table_rows
    first = record_bytes_same n a _ _ (λ q k l m. met_table_first n a b (table_rows n t) q k) ∙ sym met.first

    second : record_bytes n b (met_table n a b (table_rows n t) b) ≡ v
    unfolding second_met table_rows
    second = record_bytes_same n b _ _ (λ q k l m. met_table_second n a b (table_rows n t) q k (λ e. w.differ (sym e))) ∙ sym met.second

    pub second_over_first : put (record_size n) b v (put (record_size n) a u t) ≡ table_bytes n (met_table n a b (table_rows n t))
    second_over_first =
        sym (table_put_two n t w.well (met_table n a b (table_rows n t)) a b u v w.first w.second (λ e. w.differ (sym e)) first_long second_long first second
        (λ d l na nb q k m j. met_table-other n a b (table_rows n t) d q k na nb))

    pub first_over_second : put (record_size n) a u (put (record_size n) b v t) ≡ table_bytes n (met_table n a b (table_rows n t))
    first_over_second =
        sym (table_put_two n t w.well (met_table n a b (table_rows n t)) b a v u w.second w.first w.differ second_long first_long second first
        (λ d l nb na q k m j. met_table-other n a b (table_rows n t) d q k na nb))
