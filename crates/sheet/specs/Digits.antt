-- A BYTE, AND MORE DIGITS: the readers `byte_from` and `digits_from` are exact (`byte`, `digits`). Assumes nothing.
use Rattle.std.specs.Prelude.{ℕ, ◌+◌, ◌-◌, ◌*◌, ◌≤◌, Bool, ◌&&◌, ◌⊎◌, ◌≡◌, eqb, leb}
use Rattle.std.proofs.Math.Bool.{true, false, cond, and-eq-true_iff}
use mathlib.Core.List.{List, [], ◌∷◌, ◌++◌}
use Rattle.std.proofs.Math.Logic.{inl}
use Rattle.std.proofs.Common.{inr, sym, ap₂, ◌∙◌, arith}
use Rattle.std.proofs.Math.Path.{refl, ap, subst}
use borrow.Author.Tests.{leb-true, le-leb}
use Rattle.sheet.specs.Sheet.{feed}
use Rattle.sheet.specs.Reader.{Read, got, bad, fixed_from, is_digit, digits_from}
use Rattle.sheet.specs.Exact.{Exact, Goes, Part, Break, never, same_rest, got_rest, got_value, not_nil, cancel_right, no_longer}
use Rattle.sheet.specs.Names.{fixed}

-- ---- a byte of a sort

pub record Byte (P : ℕ → Bool) (b : ℕ) (x : List ℕ) : Type 0 where
  pub sort : P b ≡ true
  pub is : x ≡ b ∷ []

abbrev pub byte_from : (ℕ → Bool) → List ℕ → Read ℕ
byte_from P [] = bad []
byte_from P (b ∷ text) = cond (P b) (got b text) (bad (b ∷ text))

pub byte : (P : ℕ → Bool) → Exact (Byte P) (byte_from P)
byte P = record { back = back; only = only; live = live; local = local }
  where
    back : (v : ℕ) (x rest : List ℕ) → Byte P v x → byte_from P (x ++ rest) ≡ got v rest
    back v x rest l = rw (l.is, l.sort)

    only : (text rest : List ℕ) (v : ℕ) → byte_from P text ≡ got v rest → Part (Byte P) v text rest
    only [] rest v h = never (sym h)
    only (b ∷ text) rest v h = by (P b) refl h
      where
        by : (e : Bool) → P b ≡ e → cond e (got b text) (bad (b ∷ text)) ≡ got v rest → Part (Byte P) v (b ∷ text) rest
        by true e h = record { written = v ∷ []; lies = record { sort = rw (← got_value h) e; is = refl }; is = ap₂ {C = List ℕ} (λ a l. a ∷ l) (got_value h) (got_rest h) }
        by false e h = never (sym h)

    live : (text rest : List ℕ) → byte_from P text ≡ bad rest → Break (Byte P) text rest
    live [] rest h = record { before = []; is = same_rest h; goes = inl refl }
    live (b ∷ text) rest h = by (P b) h
      where
        by : (e : Bool) → cond e (got b text) (bad (b ∷ text)) ≡ bad rest → Break (Byte P) (b ∷ text) rest
        by true h = never h
        by false h = record { before = []; is = same_rest h; goes = inl refl }

    local : (p rest other : List ℕ) (b : ℕ) → byte_from P (p ++ (b ∷ rest)) ≡ bad (b ∷ rest) → byte_from P (p ++ (b ∷ other)) ≡ bad (b ∷ other)
    local [] rest other b h = by (P b) h
      where
        by : (e : Bool) → cond e (got b rest) (bad (b ∷ rest)) ≡ bad (b ∷ rest) → cond e (got b other) (bad (b ∷ other)) ≡ bad (b ∷ other)
        by true h = never h
        by false h = refl
    local (c ∷ p) rest other b h = by (P c) h
      where
        by : (e : Bool) → cond e (got c (p ++ (b ∷ rest))) (bad (c ∷ p ++ (b ∷ rest))) ≡ bad (b ∷ rest)
            → cond e (got c (p ++ (b ∷ other))) (bad (c ∷ p ++ (b ∷ other))) ≡ bad (b ∷ other)
        by true h = never h
        by false h = not_nil (cancel_right (c ∷ p) [] (b ∷ rest) (same_rest h))

-- ---- more digits, behind those of u: the line's end, or one digit more where the number is at most `most`

pub data Digits (most : ℕ) : ℕ → ℕ → List ℕ → Type 0 where
  done : {u : ℕ} → Digits most u u feed
  more : {u v : ℕ} {x : List ℕ} (d : ℕ) → d ≤ 9 → 10 * u + d ≤ most → Digits most (10 * u + d) v x → Digits most u v ((48 + d) ∷ x)

pub digit_is : (b : ℕ) → is_digit b ≡ true → (48 ≤ b) × (b ≤ 57)
digit_is b h = let z = (and-eq-true_iff (leb 48 b) (leb b 57)).0 h in (leb-true 48 b z.0, leb-true b 57 z.1)

pub is_digit_lem : (d : ℕ) → d ≤ 9 → is_digit (48 + d) ≡ true
is_digit_lem d h = rw (le-leb 48 (48 + d) (omega arith), le-leb (48 + d) 57 (omega arith))

pub less : (d : ℕ) → 48 + d - 48 ≡ d
less d = omega arith

module _ (most : ℕ) where
  -- one digit more, in the words of the reader
  grows : ℕ → ℕ → Bool
  grows u b = is_digit b && leb (10 * u + (b - 48)) most

  grows_is : (u b : ℕ) → grows u b ≡ true → (48 ≤ b) × (b ≤ 57) × (10 * u + (b - 48) ≤ most)
  unfolding grows
  grows_is u b h =
      let z = (and-eq-true_iff (is_digit b) (leb (10 * u + (b - 48)) most)).0 h in let d = digit_is b z.0 in (d.0, d.1, leb-true _ _ z.1)

  as_read : (u v b : ℕ) (x : List ℕ) → grows u b ≡ true → Digits most (10 * u + (b - 48)) v x → Digits most u v (b ∷ x)
  as_read u v b x h l =
      let z = grows_is u b h in let p = z.0 in let q = z.1 in let e : 48 + (b - 48) ≡ b = omega arith in
      subst (λ c. Digits most u v (c ∷ x)) e (more (b - 48) (omega arith) z.2 l)

  digits_back : {u v : ℕ} {x : List ℕ} → Digits most u v x → (rest : List ℕ) → digits_from most u (x ++ rest) ≡ got v rest
  unfolding digits_from fixed_from
  digits_back done rest = refl
  digits_back (more {u = u} d p q l) rest = rw (less d, is_digit_lem d p, le-leb (10 * u + d) most q) (digits_back l rest)

  digits_only : (text rest : List ℕ) (u v : ℕ) → digits_from most u text ≡ got v rest → Part (Digits most u) v text rest
  unfolding digits_from grows
  digits_only [] rest u v h = never (sym h)
  digits_only (b ∷ text) rest u v h = by (grows u b) refl (digits_only text rest (10 * u + (b - 48)) v) h
    where
      by : (e : Bool) → grows u b ≡ e
          → (digits_from most (10 * u + (b - 48)) text ≡ got v rest → Part (Digits most (10 * u + (b - 48))) v text rest)
          → cond e (digits_from most (10 * u + (b - 48)) text) (fixed_from feed u (b ∷ text)) ≡ got v rest → Part (Digits most u) v (b ∷ text) rest
      by true e later h =
          let z = later h in record { written = b ∷ z.written; lies = as_read u v b z.written e z.lies; is = ap {B = List ℕ} (λ l. b ∷ l) z.is }
      by false e later h =
          let z = (fixed u feed).only (b ∷ text) rest v h in
          record { written = feed; lies = subst (λ k. Digits most u k feed) (sym z.lies.value) done; is = z.is ∙ ap (λ (l : List ℕ). l ++ rest) z.lies.is }

  digits_live : (text rest : List ℕ) (u : ℕ) → digits_from most u text ≡ bad rest → Break (Digits most u) text rest
  unfolding digits_from fixed_from grows
  digits_live [] rest u h = record { before = []; is = same_rest h; goes = inl refl }
  digits_live (b ∷ text) rest u h = by (grows u b) (eqb b 10) refl (digits_live text rest (10 * u + (b - 48))) h
    where
      goes : grows u b ≡ true → (p : List ℕ) → (p ≡ []) ⊎ Goes (Digits most (10 * u + (b - 48))) p → Goes (Digits most u) (b ∷ p)
      goes e p (inl z) = record { value = 10 * u + (b - 48); more = feed; is = rw z (as_read u (10 * u + (b - 48)) b feed e done) }
      goes e p (inr g) = record { value = g.value; more = g.more; is = as_read u g.value b (p ++ g.more) e g.is }

      by : (e f : Bool) → grows u b ≡ e
          → (digits_from most (10 * u + (b - 48)) text ≡ bad rest → Break (Digits most (10 * u + (b - 48))) text rest)
          → cond e (digits_from most (10 * u + (b - 48)) text) (cond f (got u text) (bad (b ∷ text))) ≡ bad rest → Break (Digits most u) (b ∷ text) rest
      by true f e later h =
          let z = later h in record { before = b ∷ z.before; is = ap {B = List ℕ} (λ l. b ∷ l) z.is; goes = inr (goes e z.before z.goes) }
      by false true e later h = never h
      by false false e later h = record { before = []; is = same_rest h; goes = inl refl }

  digits_local : (p rest other : List ℕ) (b u : ℕ) → digits_from most u (p ++ (b ∷ rest)) ≡ bad (b ∷ rest) → digits_from most u (p ++ (b ∷ other)) ≡ bad (b ∷ other)
  unfolding digits_from fixed_from grows
  digits_local [] rest other b u h = by (grows u b) (eqb b 10) h
    where
      by : (e f : Bool) → cond e (digits_from most (10 * u + (b - 48)) rest) (cond f (got u rest) (bad (b ∷ rest))) ≡ bad (b ∷ rest)
          → cond e (digits_from most (10 * u + (b - 48)) other) (cond f (got u other) (bad (b ∷ other))) ≡ bad (b ∷ other)
      by true f h = let z = digits_live rest (b ∷ rest) (10 * u + (b - 48)) h in no_longer z.before b rest z.is
      by false true h = never h
      by false false h = refl
  digits_local (c ∷ p) rest other b u h = by (grows u c) (eqb c 10) (digits_local p rest other b (10 * u + (c - 48))) h
    where
      by : (e f : Bool)
          → (digits_from most (10 * u + (c - 48)) (p ++ (b ∷ rest)) ≡ bad (b ∷ rest) → digits_from most (10 * u + (c - 48)) (p ++ (b ∷ other)) ≡ bad (b ∷ other))
          → cond e (digits_from most (10 * u + (c - 48)) (p ++ (b ∷ rest))) (cond f (got u (p ++ (b ∷ rest))) (bad (c ∷ p ++ (b ∷ rest)))) ≡ bad (b ∷ rest)
          → cond e (digits_from most (10 * u + (c - 48)) (p ++ (b ∷ other))) (cond f (got u (p ++ (b ∷ other))) (bad (c ∷ p ++ (b ∷ other)))) ≡ bad (b ∷ other)
      by true f later h = later h
      by false true later h = never h
      by false false later h = not_nil (cancel_right (c ∷ p) [] (b ∷ rest) (same_rest h))

  pub digits : (u : ℕ) → Exact (Digits most u) (digits_from most u)
  digits u =
      record {
        back = λ v x rest l. digits_back l rest;
        only = λ text rest v h. digits_only text rest u v h;
        live = λ text rest h. digits_live text rest u h;
        local = λ p rest other b h. digits_local p rest other b u h;
      }
