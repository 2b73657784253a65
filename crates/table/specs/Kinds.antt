-- The kinds of rows as the code has them, and the numbers that stand for them in a table.
-- Main names: `kind_number`, `Decodes`; `one_kind`, `apart` and `either`, what a test of kinds says of their numbers.
-- Assumes nothing.
use Rattle.std.specs.Prelude.{ℕ, ◌≡◌, ◌≢◌, ◌⊎◌, cond, eqb, refl, ◌<◌, Result, MatchResult}
use Rattle.std.proofs.Common.{sym, ap, ◌∙◌, inl, inr}
use Rattle.table.specs.declared.Kind.{Kind}
use Rattle.table.specs.declared.Kind.TheVariants.{Input, Const, Op, Pick, For, Arg, Next, End, Out}
use Rattle.table.specs.declared.UnknownKind.{UnknownKind}

abbrev pub kind_number : Kind → ℕ
kind_number Input = 0
kind_number Const = 1
kind_number Op = 2
kind_number Pick = 3
kind_number For = 4
kind_number Arg = 5
kind_number Next = 6
kind_number End = 7
kind_number Out = 8

-- the kind with this number, or that no kind has it
abbrev pub Decodes : ℕ → Result Kind UnknownKind → Type 0
Decodes n r = MatchResult r (λ kind. kind_number kind ≡ n) (λ e. (e.0 ≡ n) × (8 < n))

-- the kind that a number below 9 stands for
kind_of_number : ℕ → Kind
kind_of_number n =
    cond (eqb n 0) Input (cond (eqb n 1) Const (cond (eqb n 2) Op (cond (eqb n 3) Pick (cond (eqb n 4) For (cond (eqb n 5) Arg (cond (eqb n 6) Next (cond (eqb n 7) End Out)))))))

decoded : (k : Kind) → kind_of_number (kind_number k) ≡ k
unfolding kind_of_number
decoded Input = refl
decoded Const = refl
decoded Op = refl
decoded Pick = refl
decoded For = refl
decoded Arg = refl
decoded Next = refl
decoded End = refl
decoded Out = refl

-- two kinds with one number are one kind
pub one_kind : (a b : Kind) → kind_number a ≡ kind_number b → a ≡ b
one_kind a b e = sym (decoded a) ∙ ap kind_of_number e ∙ decoded b

-- what a test of kinds says of their numbers
pub apart : (a b : Kind) → (a ≡ b → ⊥) → kind_number a ≢ kind_number b
apart a b n e = n (one_kind a b e)

pub either : (k a b : Kind) → (k ≡ a) ⊎ (k ≡ b) → (kind_number k ≡ kind_number a) ⊎ (kind_number k ≡ kind_number b)
either k a b (inl e) = inl (ap kind_number e)
either k a b (inr e) = inr (ap kind_number e)
