-- EXACT READERS: what it is that a reader reads a language and nothing else, and the ways of putting such readers together.
--
--   Exact                what a reader has to be
--   in_other_words       the same language, said in another way
--   nothing_more, both   no bytes; one part behind another
--
-- A language says how values are written: `L v x` says that x is how v is written. That no text of it has the byte at which the reader breaks
-- follows from `back` and `local`: such a text would be read, and it would break. Assumes nothing.
use Rattle.std.specs.Prelude.{ℕ, suc, ◌+◌, List, [], ◌∷◌, ◌++◌, ◌⊎◌, ◌≡◌, refl, length}
use Rattle.std.proofs.Common.{append_assoc, append-nil, inl, inr, sym, ap, ◌∙◌, subst, arith, length-append}
use Rattle.std.proofs.Math.Seq.{take-append_seam}
use Rattle.sheet.specs.Reader.{Read, got, bad, and_then}

-- a text of the language that begins with p
pub record Goes {A : Type 0} (L : A → List ℕ → Type 0) (p : List ℕ) : Type 0 where
  pub value : A
  pub more : List ℕ
  pub is : L value (p ++ more)

-- the text is v's, and then comes the rest
pub record Part {A : Type 0} (L : A → List ℕ → Type 0) (v : A) (text rest : List ℕ) : Type 0 where
  pub written : List ℕ
  pub lies : L v written
  pub is : text ≡ written ++ rest

-- What stands before the rest can go on. Or nothing stands before it: then it is left open whether the language has a text at all.
pub record Break {A : Type 0} (L : A → List ℕ → Type 0) (text rest : List ℕ) : Type 0 where
  pub before : List ℕ
  pub is : text ≡ before ++ rest
  pub goes : (before ≡ []) ⊎ Goes L before

-- What is written is read back; what is read was written; where the reader breaks, what stands before can go on; and it breaks there
-- whatever stands behind the byte at which it breaks.
pub record Exact {A : Type 0} (L : A → List ℕ → Type 0) (read : List ℕ → Read A) : Type 0 where
  pub back : (v : A) (x rest : List ℕ) → L v x → read (x ++ rest) ≡ got v rest
  pub only : (text rest : List ℕ) (v : A) → read text ≡ got v rest → Part L v text rest
  pub live : (text rest : List ℕ) → read text ≡ bad rest → Break L text rest
  pub local : (p rest other : List ℕ) (b : ℕ) → read (p ++ (b ∷ rest)) ≡ bad (b ∷ rest) → read (p ++ (b ∷ other)) ≡ bad (b ∷ other)

-- ---- what is read is not also refused

pub never : {A : Type 0} {v : A} {rest other : List ℕ} {C : Type 0} → got v rest ≡ bad other → C
never {A} {v} {rest} {other} h = absurd (subst (λ x. says x) h tt)
  where
    says : Read A → Type 0
    says (got v rest) = Unit
    says (bad rest) = ⊥

pub same_rest : {A : Type 0} {rest other : List ℕ} → ◌≡◌ {A = Read A} (bad rest) (bad other) → rest ≡ other
same_rest h = cc

pub got_rest : {A : Type 0} {v w : A} {rest other : List ℕ} → got v rest ≡ got w other → rest ≡ other
got_rest h = cc

pub got_value : {A : Type 0} {v w : A} {rest other : List ℕ} → got v rest ≡ got w other → v ≡ w
got_value h = cc

-- ---- laws of lists

pub not_nil : {C : Type 0} {b : ℕ} {l : List ℕ} → b ∷ l ≡ [] → C
not_nil h = let z : ◌≡◌ {A = ℕ} 1 0 = ap (λ (l : List ℕ). is_cons l) h in absurd (omega arith)
  where
    is_cons : List ℕ → ℕ
    is_cons [] = 0
    is_cons (b ∷ l) = 1

pub same_head : {a b : ℕ} {l m : List ℕ} → a ∷ l ≡ b ∷ m → a ≡ b
same_head h = cc

pub same_tail : {a b : ℕ} {l m : List ℕ} → a ∷ l ≡ b ∷ m → l ≡ m
same_tail h = cc

pub cancel_right : (p q r : List ℕ) → p ++ r ≡ q ++ r → p ≡ q
cancel_right p q r h =
    let e : length p + length r ≡ length q + length r = sym (length-append p r) ∙ ap length h ∙ length-append q r in
    let n : length p ≡ length q = omega arith in
    sym (take-append_seam p r) ∙ rw (h, n) (take-append_seam q r)

-- a list does not stand behind its own first byte
pub no_longer : {C : Type 0} (p : List ℕ) (b : ℕ) (rest : List ℕ) → rest ≡ p ++ (b ∷ rest) → C
no_longer p b rest h = let e : length rest ≡ length p + suc (length rest) = ap length h ∙ length-append p (b ∷ rest) in absurd (omega arith)

-- ---- the same language, said in another way
pub in_other_words : {A : Type 0} (L M : A → List ℕ → Type 0) (read : List ℕ → Read A) → Exact L read
    → ((v : A) (x : List ℕ) → L v x → M v x) → ((v : A) (x : List ℕ) → M v x → L v x) → Exact M read
in_other_words {A} L M read e to from =
    record {
      back = λ v x rest m. e.back v x rest (from v x m);
      only = λ text rest v h. let a = e.only text rest v h in record { written = a.written; lies = to v a.written a.lies; is = a.is };
      live = λ text rest h. let a = e.live text rest h in record { before = a.before; is = a.is; goes = goes a.before a.goes };
      local = e.local;
    }
  where
    goes : (p : List ℕ) → (p ≡ []) ⊎ Goes L p → (p ≡ []) ⊎ Goes M p
    goes p (inl z) = inl z
    goes p (inr g) = inr (record { value = g.value; more = g.more; is = to g.value (p ++ g.more) g.is })

-- ---- no bytes

pub record Nothing {A : Type 0} (u v : A) (x : List ℕ) : Type 0 where
  pub value : v ≡ u
  pub is : x ≡ []

pub nothing_more : {A : Type 0} (u : A) → Exact (Nothing u) (λ text. got u text)
nothing_more {A} u = record { back = back; only = only; live = λ text rest h. never h; local = λ p rest other b h. never h }
  where
    back : (v : A) (x rest : List ℕ) → Nothing u v x → got u (x ++ rest) ≡ got v rest
    back v x rest n = rw (n.is, n.value)

    only : (text rest : List ℕ) (v : A) → got u text ≡ got v rest → Part (Nothing u) v text rest
    only text rest v h = record { written = []; lies = record { value = sym (got_value h); is = refl }; is = got_rest h }

pub nothing_some : {A : Type 0} (u : A) → Goes (Nothing u) []
nothing_some u = record { value = u; more = []; is = record { value = refl; is = refl } }

-- ---- one part behind another, which may depend on the first one's value

pub record Both {A B : Type 0} (L : A → List ℕ → Type 0) (M : A → B → List ℕ → Type 0) (w : B) (z : List ℕ) : Type 0 where
  pub first : A
  pub text : List ℕ
  pub rest : List ℕ
  pub one : L first text
  pub two : M first w rest
  pub is : z ≡ text ++ rest

module _ {A B : Type 0} (L : A → List ℕ → Type 0) (M : A → B → List ℕ → Type 0) (r : List ℕ → Read A) (s : A → List ℕ → Read B)
    (e : Exact L r) (f : (v : A) → Exact (M v) (s v)) (some : (v : A) → Goes (M v) []) where
  both_back : (w : B) (z rest : List ℕ) → Both L M w z → and_then (r (z ++ rest)) s ≡ got w rest
  both_back w z rest k =
      rw (k.is, append_assoc k.text k.rest rest, e.back k.first k.text (k.rest ++ rest) k.one)
      ((f k.first).back w k.rest rest k.two)

  both_only : (text rest : List ℕ) (w : B) → and_then (r text) s ≡ got w rest → Part (Both L M) w text rest
  both_only text rest w h = go (r text) refl h
    where
      go : (x : Read A) → r text ≡ x → and_then x s ≡ got w rest → Part (Both L M) w text rest
      go (bad t) q h = never (sym h)
      go (got v t) q h =
          let a = e.only text t v q in let b = (f v).only t rest w h in
          record {
            written = a.written ++ b.written;
            lies = record { first = v; text = a.written; rest = b.written; one = a.lies; two = b.lies; is = refl };
            is = a.is ∙ ap (λ (l : List ℕ). a.written ++ l) b.is ∙ sym (append_assoc a.written b.written rest);
          }

  -- p is in the first part, which can go on; behind it stands some second part
  first_goes : (p : List ℕ) → (p ≡ []) ⊎ Goes L p → (p ≡ []) ⊎ Goes (Both L M) p
  first_goes p (inl z) = inl z
  first_goes p (inr g) =
      let b = some g.value in
      inr (record {
        value = b.value;
        more = g.more ++ b.more;
        is = record { first = g.value; text = p ++ g.more; rest = b.more; one = g.is; two = b.is; is = sym (append_assoc p g.more b.more) };
      })

  second_goes : (v : A) (x p : List ℕ) → L v x → (p ≡ []) ⊎ Goes (M v) p → Goes (Both L M) (x ++ p)
  second_goes v x p l (inl z) =
      let b = some v in
      record { value = b.value; more = b.more; is = record { first = v; text = x; rest = b.more; one = l; two = b.is; is = rw (z, append-nil x) } }
  second_goes v x p l (inr g) =
      record {
        value = g.value;
        more = g.more;
        is = record { first = v; text = x; rest = p ++ g.more; one = l; two = g.is; is = append_assoc x p g.more };
      }

  both_live : (text rest : List ℕ) → and_then (r text) s ≡ bad rest → Break (Both L M) text rest
  both_live text rest h = go (r text) refl h
    where
      go : (x : Read A) → r text ≡ x → and_then x s ≡ bad rest → Break (Both L M) text rest
      go (bad t) q h = let a = e.live text rest (q ∙ ap bad (same_rest h)) in record { before = a.before; is = a.is; goes = first_goes a.before a.goes }
      go (got v t) q h =
          let a = e.only text t v q in let b = (f v).live t rest h in
          record {
            before = a.written ++ b.before;
            is = a.is ∙ ap (λ (l : List ℕ). a.written ++ l) b.is ∙ sym (append_assoc a.written b.before rest);
            goes = inr (second_goes v a.written b.before a.lies b.goes);
          }

  both_local : (p rest other : List ℕ) (b : ℕ) → and_then (r (p ++ (b ∷ rest))) s ≡ bad (b ∷ rest) → and_then (r (p ++ (b ∷ other))) s ≡ bad (b ∷ other)
  both_local p rest other b h = go (r (p ++ (b ∷ rest))) refl h
    where
      go : (x : Read A) → r (p ++ (b ∷ rest)) ≡ x → and_then x s ≡ bad (b ∷ rest) → and_then (r (p ++ (b ∷ other))) s ≡ bad (b ∷ other)
      go (bad t) q h = rw (e.local p rest other b (q ∙ ap bad (same_rest h)))
      go (got v t) q h =
          let a = e.only (p ++ (b ∷ rest)) t v q in let k = (f v).live t (b ∷ rest) h in
          let z : p ≡ a.written ++ k.before =
          cancel_right p (a.written ++ k.before) (b ∷ rest)
          (a.is ∙ ap (λ (l : List ℕ). a.written ++ l) k.is ∙ sym (append_assoc a.written k.before (b ∷ rest))) in
          rw (z, append_assoc a.written k.before (b ∷ other), e.back v a.written (k.before ++ (b ∷ other)) a.lies)
          ((f v).local k.before rest other b (rw (← k.is) h))

  pub both : Exact (Both L M) (λ text. and_then (r text) s)
  both = record { back = both_back; only = both_only; live = both_live; local = both_local }

pub both_some : {A B : Type 0} (L : A → List ℕ → Type 0) (M : A → B → List ℕ → Type 0) → Goes L [] → ((v : A) → Goes (M v) []) → Goes (Both L M) []
both_some L M g some =
    let b = some g.value in
    record {
      value = b.value;
      more = g.more ++ b.more;
      is = record { first = g.value; text = g.more; rest = b.more; one = g.is; two = b.is; is = refl };
    }
