-- The word of the heads as code makes it, one bit after another. Assumes nothing.
use Rattle.std.specs.Prelude.{◌≡◌, [], ◌∷◌, ℕ, zero, suc, ◌*◌, ◌%◌, ◌^◌, ◌<◌}
use Rattle.std.specs.List.{fold, range_with_len}
use Rattle.std.specs.Int.Bits.{bit_or}
use Rattle.std.proofs.Common.{refl, ap, ◌∙◌, arith}
use Rattle.std.proofs.lemmas.List.Sums.{fold-append}
use Rattle.model.specs.Tests.{head}
use Rattle.model.specs.Steps.{Slice}
use Rattle.symbols.proofs.Digits.{make_bit}
use Rattle.record.specs.Words.{head_marks}
use Rattle.record.proofs.Ranges.{range-last}

-- The bit of the head of row k set too.
abbrev pub with_head : Slice → ℕ → ℕ → ℕ
with_head s w k = bit_or w (1 * 2 ^ head (s k) % 2 ^ 64)

pub heads_folded : (n : ℕ) (s : Slice) → ((k : ℕ) → k < n → head (s k) < 64) → fold (with_head s) 0 (range_with_len 0 n) ≡ head_marks n s
unfolding head_marks
heads_folded zero s low = refl
heads_folded (suc n) s low =
    ap (fold (with_head s) 0) (range-last n)
    ∙ fold-append (with_head s) 0 (range_with_len 0 n) (n ∷ [])
    ∙ rw (heads_folded n s (λ k h. low k (omega arith)), make_bit (head (s n)) (low n (omega arith))) refl
