-- Version vectors of unbounded whole numbers, by Table 2.1 of source document 000, and their comparison in document 01's terms.
-- Assumes nothing.
use Rattle.std.specs.Prelude.{cond, ◌&&◌, ℕ, ◌+◌, max, eqb, ltb}
use Rattle.model.specs.Tests.{count}
use Rattle.model.specs.Steps.{order_of, is_named}
use Rattle.model.specs.declared.Order.{Order}

-- What copy i knows of copy k: how many updates made there.
abbrev pub Vectors : Type 0
Vectors = ℕ → ℕ → ℕ

-- Initialization: 0 everywhere.
unfoldable pub initial_vectors : Vectors
initial_vectors i k = 0

-- Update of copy a: one more where k = i = a.
unfoldable pub updated_vectors : ℕ → Vectors → Vectors
updated_vectors a v i k = cond (eqb i a && eqb k a) (v i k + 1) (v i k)

-- Synchronization of copies a and b: the greater of the two for i in {a, b}.
unfoldable pub met_vectors : ℕ → ℕ → Vectors → Vectors
met_vectors a b v i k = cond (is_named a b i) (max (v a k) (v b k)) (v i k)

-- The comparison of copy a against copy b: the components in which a knows less, and those in which it knows more.
unfoldable pub vector_order : ℕ → Vectors → ℕ → ℕ → Order
vector_order n v a b = order_of (count n (λ k. ltb (v a k) (v b k))) (count n (λ k. ltb (v b k) (v a k)))
