-- Which kinds of rows have a value that is theirs alone. Assumes nothing.
use Rattle.std.proofs.Common.{◌≡◌, ◌≤◌, ◌<◌, ◌⊎◌, inl, inr, refl, ap, arith}
use Rattle.table.specs.Kinds.{kind_number}
use Rattle.table.specs.declared.Kind.{Kind}
use Rattle.table.specs.declared.Kind.TheVariants.{Input, Const, Op, Pick, For, Arg, Next, End, Out}

pub of_none : (k : Kind) → (k ≡ Next) ⊎ (k ≡ End) ⊎ (k ≡ Out) → 5 < kind_number k
of_none k (inl e) = let z = ap kind_number e in omega arith
of_none k (inr (inl e)) = let z = ap kind_number e in omega arith
of_none k (inr (inr e)) = let z = ap kind_number e in omega arith

pub of_value : (k : Kind) → (k ≡ Next → ⊥) → (k ≡ End → ⊥) → (k ≡ Out → ⊥) → kind_number k ≤ 5
of_value Input a b c = omega arith
of_value Const a b c = omega arith
of_value Op a b c = omega arith
of_value Pick a b c = omega arith
of_value For a b c = omega arith
of_value Arg a b c = omega arith
of_value Next a b c = absurd (a refl)
of_value End a b c = absurd (b refl)
of_value Out a b c = absurd (c refl)
