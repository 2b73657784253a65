-- What a test of a row's kind says of its number. Assumes nothing.
use Rattle.std.proofs.Common.{◌≡◌, ◌≤◌, ◌<◌, ◌⊎◌, inl, inr, ap, arith}
use Rattle.table.specs.Kinds.{kind_number, apart}
use Rattle.table.specs.declared.Kind.{Kind}
use Rattle.table.specs.declared.Kind.TheVariants.{Input, Const, Op, Pick}

pub of_start : (k : Kind) → (k ≡ Input) ⊎ (k ≡ Const) → kind_number k ≤ 1
of_start k (inl e) = let z = ap kind_number e in omega arith
of_start k (inr e) = let z = ap kind_number e in omega arith

pub of_no_start : (k : Kind) → (k ≡ Input → ⊥) → (k ≡ Const → ⊥) → 1 < kind_number k
of_no_start k a b = let x = apart k Input a in let y = apart k Const b in omega arith

pub of_node : (k : Kind) → (k ≡ Op) ⊎ (k ≡ Pick) → (1 < kind_number k) × (kind_number k ≤ 3)
of_node k (inl e) = let z = ap kind_number e in omega arith
of_node k (inr e) = let z = ap kind_number e in omega arith

pub of_no_node : (k : Kind) → 1 < kind_number k → (k ≡ Op → ⊥) → (k ≡ Pick → ⊥) → 3 < kind_number k
of_no_node k l a b = let x = apart k Op a in let y = apart k Pick b in omega arith
