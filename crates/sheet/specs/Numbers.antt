-- NUMBERS: the reader `number_from` is exact for the decimals of its numbers (`number`). Assumes nothing.
use Rattle.std.specs.Prelude.{ℕ, zero, suc, ◌+◌, ◌-◌, ◌*◌, ◌/◌, ◌%◌, ◌≤◌, ◌<◌, Bool, ◌&&◌, ◌≡◌, eqb, leb, ltb}
use Rattle.std.proofs.Math.Bool.{true, false, cond, and-eq-true_iff}
use mathlib.Core.List.{List, [], ◌∷◌, ◌++◌, append_assoc}
use Rattle.std.proofs.Math.Path.{refl, fun_ext}
use Rattle.std.proofs.Common.{sym, ap, ap₂, ◌∙◌, subst, arith, eqb-true, ne_eqb, leb-true, le-leb, ltb-true, ltb-false}
use Rattle.std.proofs.lemmas.Bool.{eqb-false}
use Rattle.sheet.specs.Sheet.{decimal, feed}
use Rattle.sheet.specs.Decimal.{limit, one_digit, more_digits, one_more_lem}
use Rattle.sheet.specs.Reader.{Read, got, bad, and_then, fixed_from, is_digit, digits_from, number_from}
use Rattle.sheet.specs.Exact.{Exact, Goes, Both, both, in_other_words}
use Rattle.sheet.specs.Names.{Fixed, fixed, fixed_some}
use Rattle.sheet.specs.Digits.{Byte, byte_from, byte, Digits, done, more, digit_is, is_digit_lem, less, digits}

-- a number from `least` to `most`, and the line's end
pub record Number (least most v : ℕ) (x : List ℕ) : Type 0 where
  pub low : least ≤ v
  pub high : v ≤ most
  pub is : x ≡ decimal v ++ feed

-- what the digits behind u, which is not 0, make of it
digits_are : (most : ℕ) → most < 4294967296 → {u v : ℕ} {x : List ℕ} → Digits most u v x → 0 < u → u ≤ most
    → (u ≤ v) × (v ≤ most) × (decimal u ++ x ≡ decimal v ++ feed)
digits_are most m (done {u}) z h = (omega arith, h, refl)
digits_are most m (more {u = u} {x = x} d p q l) z h =
    let k = digits_are most m l (omega arith) q in let n = k.0 in (omega arith, k.1, one_more_lem u d x z p (omega arith) ∙ k.2)

module _ (least most : ℕ) (l : least ≤ 1) (n : 1 ≤ most) (m : most < 4294967296) where
  -- the first digit
  abbrev begins : ℕ → Bool
  begins b = is_digit b && (leb least (b - 48) && leb (b - 48) most)

  begins_is : (b : ℕ) → begins b ≡ true → (48 ≤ b) × (b ≤ 57) × (least ≤ b - 48) × (b - 48 ≤ most)
  begins_is b h =
      let z = (and-eq-true_iff (is_digit b) (leb least (b - 48) && leb (b - 48) most)).0 h in
      let y = (and-eq-true_iff (leb least (b - 48)) (leb (b - 48) most)).0 z.1 in
      let d = digit_is b z.0 in (d.0, d.1, leb-true _ _ y.0, leb-true _ _ y.1)

  is_begin : (d : ℕ) → d ≤ 9 → least ≤ d → d ≤ most → begins (48 + d) ≡ true
  is_begin d p q r = rw (is_digit_lem d p, less d, le-leb least d q, le-leb d most r)

  -- what stands behind the first digit, b: only the line's end behind a 0
  abbrev After : Bool → ℕ → ℕ → List ℕ → Type 0
  After true b v x = Fixed feed 0 v x
  After false b v x = Digits most (b - 48) v x

  abbrev after_from : Bool → ℕ → List ℕ → Read ℕ
  after_from e b text = cond e (fixed_from feed 0 text) (digits_from most (b - 48) text)

  after : (e : Bool) (b : ℕ) → Exact (After e b) (after_from e b)
  after true b = fixed 0 feed
  after false b = digits most (b - 48)

  after_some : (e : Bool) (b : ℕ) → Goes (After e b) []
  after_some true b = fixed_some 0 feed
  after_some false b = record { value = b - 48; more = feed; is = done }

  -- in two parts, as it is read
  abbrev Parts : ℕ → List ℕ → Type 0
  Parts = Both (Byte begins) (λ b. After (eqb b 48) b)

  parts_read : (text : List ℕ) → and_then (byte_from begins text) (λ b text. after_from (eqb b 48) b text) ≡ number_from least most text
  unfolding number_from
  parts_read [] = refl
  parts_read (b ∷ text) = by (begins b)
    where
      by : (e : Bool) → and_then (cond e (got b text) (bad (b ∷ text))) (λ b text. after_from (eqb b 48) b text) ≡ cond e (after_from (eqb b 48) b text) (bad (b ∷ text))
      by true = refl
      by false = refl

  to_number : (v : ℕ) (x : List ℕ) → Parts v x → Number least most v x
  to_number v x k = by (eqb k.first 48) refl k.two
    where
      by : (e : Bool) → eqb k.first 48 ≡ e → After e k.first v k.rest → Number least most v x
      by true e a =
          let b = eqb-true k.first 48 e in let z = begins_is k.first k.one.sort in let low = z.2 in let w = a.value in
          record {
            low = omega arith;
            high = omega arith;
            is = k.is ∙ ap₂ {C = List ℕ} (λ p q. p ++ q) (k.one.is ∙ ap {B = List ℕ} (λ c. c ∷ []) b ∙ sym (one_digit 0 (omega arith))) a.is
                ∙ ap (λ c. decimal c ++ feed) (sym a.value);
          }
      by false e a =
          let b = eqb-false k.first 48 e in let z = begins_is k.first k.one.sort in
          let p = z.0 in let q = z.1 in let low = z.2 in let high = z.3 in
          let y = digits_are most m a (omega arith) high in let w = y.0 in
          let c : 48 + (k.first - 48) ≡ k.first = omega arith in
          let d : decimal (k.first - 48) ≡ k.first ∷ [] = one_digit (k.first - 48) (omega arith) ∙ ap {B = List ℕ} (λ c. c ∷ []) c in
          record {
            low = omega arith;
            high = y.1;
            is = k.is ∙ ap (λ (l : List ℕ). l ++ k.rest) (k.one.is ∙ sym d) ∙ y.2;
          }

  one_begins : (u v : ℕ) (x : List ℕ) → u < 10 → 0 < u → u ≤ most → Digits most u v x → Parts v (decimal u ++ x)
  one_begins u v x t z p g =
      let a : Digits most (48 + u - 48) v x = rw (less u) g in
      record {
        first = 48 + u;
        text = (48 + u) ∷ [];
        rest = x;
        one = record { sort = is_begin u (omega arith) (omega arith) p; is = refl };
        two = rw (ne_eqb (48 + u) 48 (omega arith)) a;
        is = ap (λ (l : List ℕ). l ++ x) (one_digit u t);
      }

  -- the digits of u, which is not 0, and then what may stand behind them
  spelled : (f u v : ℕ) (x : List ℕ) → u < limit f → 0 < u → u ≤ most → Digits most u v x → Parts v (decimal u ++ x)
  spelled zero u v x h z p g = one_begins u v x h z p g
  spelled (suc f) u v x h z p g = by (ltb u 10) refl (spelled f (u / 10) v ((48 + u % 10) ∷ x))
    where
      by : (e : Bool) → ltb u 10 ≡ e
          → (u / 10 < limit f → 0 < u / 10 → u / 10 ≤ most → Digits most (u / 10) v ((48 + u % 10) ∷ x) → Parts v (decimal (u / 10) ++ ((48 + u % 10) ∷ x)))
          → Parts v (decimal u ++ x)
      by true e later = one_begins u v x (ltb-true u 10 e) z p g
      by false e later =
          let t = ltb-false u 10 e in let w : 10 * (u / 10) + u % 10 ≡ u = omega arith in
          let a : Digits most (10 * (u / 10) + u % 10) v x = rw w g in
          let s : decimal u ++ x ≡ decimal (u / 10) ++ ((48 + u % 10) ∷ x) =
          ap (λ (l : List ℕ). l ++ x) (more_digits u t (omega arith)) ∙ append_assoc (decimal (u / 10)) ((48 + u % 10) ∷ []) x in
          subst (λ (l : List ℕ). Parts v l) (sym s) (later (omega arith) (omega arith) (omega arith) (more (u % 10) (omega arith) (omega arith) a))

  from_number : (v : ℕ) (x : List ℕ) → Number least most v x → Parts v x
  from_number zero x k =
      let low = k.low in
      record {
        first = 48;
        text = 48 ∷ [];
        rest = feed;
        one = record { sort = is_begin 0 (omega arith) low (omega arith); is = refl };
        two = record { value = refl; is = refl };
        is = k.is ∙ ap (λ (l : List ℕ). l ++ feed) (one_digit 0 (omega arith));
      }
  from_number (suc v) x k =
      let high = k.high in subst (λ (l : List ℕ). Parts (suc v) l) (sym k.is) (spelled 9 (suc v) (suc v) feed (omega arith) (omega arith) high done)

  pub number : Exact (Number least most) (number_from least most)
  number =
      in_other_words Parts (Number least most) (number_from least most)
      (subst (λ r. Exact Parts r) (fun_ext parts_read)
      (both (Byte begins) (λ b. After (eqb b 48) b) (byte_from begins) (λ b. after_from (eqb b 48) b) (byte begins) (λ b. after (eqb b 48) b) (λ b. after_some (eqb b 48) b)))
      to_number from_number

  pub number_some : Goes (Number least most) []
  number_some = record { value = 1; more = decimal 1 ++ feed; is = record { low = l; high = n; is = refl } }
