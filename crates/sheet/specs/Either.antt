-- ONE OF TWO PARTS: `farthest` of two exact readers is exact (`either`), where no text of the one begins a text of the other.
-- Assumes nothing.
use Rattle.std.specs.Prelude.{ℕ, suc, ◌+◌, ◌≤◌, ◌<◌, Bool, true, false, cond, List, [], ◌∷◌, ◌++◌, ◌⊎◌, ◌≡◌, refl, leb, length}
use Rattle.std.proofs.Common.{append_assoc, inl, inr, sym, ap, ap₂, ◌∙◌, arith, leb-true, leb-false, le-leb, length-append}
use Rattle.std.proofs.lemmas.Bool.{lt-leb}
use Rattle.sheet.specs.Reader.{Read, got, bad, farthest}
use Rattle.sheet.specs.Exact.{Exact, Goes, Part, Break, never, same_rest, same_head, same_tail}

abbrev pub Either : {A : Type 0} → (A → List ℕ → Type 0) → (A → List ℕ → Type 0) → A → List ℕ → Type 0
Either L M v x = L v x ⊎ M v x

-- of two ways to cut a list, the one with the longer rest is cut first
earlier : (x p y z : List ℕ) → p ++ y ≡ x ++ z → length y ≤ length z → (q : List ℕ) × (p ≡ x ++ q) × (z ≡ q ++ y)
earlier [] p y z h n = (p, refl, sym h)
earlier (a ∷ x) [] y z h n =
    let e : length y ≡ suc (length x + length z) = ap length h ∙ ap (λ k. suc k) (length-append x z) in absurd (omega arith)
earlier (a ∷ x) (c ∷ p) y z h n =
    let k = earlier x p y z (same_tail h) n in (k.0, ap₂ {C = List ℕ} (λ a l. a ∷ l) (same_head h) k.1, k.2)

-- a reader that breaks before b, or at it, breaks there whatever stands behind b
shifted : {A : Type 0} (L : A → List ℕ → Type 0) (read : List ℕ → Read A) → Exact L read → (p rest other o : List ℕ) (b : ℕ)
    → read (p ++ (b ∷ rest)) ≡ bad o → suc (length rest) ≤ length o → (q : List ℕ) × (o ≡ q ++ (b ∷ rest)) × (read (p ++ (b ∷ other)) ≡ bad (q ++ (b ∷ other)))
shifted L read e p rest other o b h n =
    let a = e.live (p ++ (b ∷ rest)) o h in let k = earlier a.before p (b ∷ rest) o a.is n in (k.0, k.2, by a.before k.0 k.1 k.2)
  where
    go : (x q : List ℕ) → read (x ++ (q ++ (b ∷ rest))) ≡ bad (q ++ (b ∷ rest)) → read (x ++ (q ++ (b ∷ other))) ≡ bad (q ++ (b ∷ other))
    go x [] h = e.local x rest other b h
    go x (c ∷ q) h = e.local x (q ++ (b ∷ rest)) (q ++ (b ∷ other)) c h

    at : (x q l : List ℕ) → p ≡ x ++ q → read (p ++ l) ≡ read (x ++ (q ++ l))
    at x q l z = ap (λ (m : List ℕ). read (m ++ l)) z ∙ ap read (append_assoc x q l)

    by : (x q : List ℕ) → p ≡ x ++ q → o ≡ q ++ (b ∷ rest) → read (p ++ (b ∷ other)) ≡ bad (q ++ (b ∷ other))
    by x q z y = at x q (b ∷ other) z ∙ go x q (sym (at x q (b ∷ rest) z) ∙ h ∙ ap bad y)

module _ {A : Type 0} (L M : A → List ℕ → Type 0) (r s : List ℕ → Read A) (e : Exact L r) (f : Exact M s)
    (apart : (v w : A) (x y a b : List ℕ) → L v x → M w y → x ++ a ≡ y ++ b → ⊥) where
  abbrev read : List ℕ → Read A
  read text = farthest (r text) (s text)

  back : (v : A) (x rest : List ℕ) → Either L M v x → read (x ++ rest) ≡ got v rest
  back v x rest (inl l) = rw (e.back v x rest l)
  back v x rest (inr m) = go (r (x ++ rest)) refl
    where
      go : (a : Read A) → r (x ++ rest) ≡ a → farthest a (s (x ++ rest)) ≡ got v rest
      go (got u t) q = let k = e.only (x ++ rest) t u q in absurd (apart u v k.written x t rest k.lies m (sym k.is))
      go (bad t) q = rw (f.back v x rest m)

  only : (text rest : List ℕ) (v : A) → read text ≡ got v rest → Part (Either L M) v text rest
  only text rest v h = go (r text) (s text) refl refl h
    where
      go : (a b : Read A) → r text ≡ a → s text ≡ b → farthest a b ≡ got v rest → Part (Either L M) v text rest
      go (got u t) b p q h = let k = e.only text rest v (p ∙ h) in record { written = k.written; lies = inl k.lies; is = k.is }
      go (bad t) (got u o) p q h = let k = f.only text rest v (q ∙ h) in record { written = k.written; lies = inr k.lies; is = k.is }
      go (bad t) (bad o) p q h = never (sym h)

  one_goes : (p : List ℕ) → (p ≡ []) ⊎ Goes L p → (p ≡ []) ⊎ Goes (Either L M) p
  one_goes p (inl z) = inl z
  one_goes p (inr g) = inr (record { value = g.value; more = g.more; is = inl g.is })

  other_goes : (p : List ℕ) → (p ≡ []) ⊎ Goes M p → (p ≡ []) ⊎ Goes (Either L M) p
  other_goes p (inl z) = inl z
  other_goes p (inr g) = inr (record { value = g.value; more = g.more; is = inr g.is })

  live : (text rest : List ℕ) → read text ≡ bad rest → Break (Either L M) text rest
  live text rest h = go (r text) (s text) refl refl h
    where
      by : (t o : List ℕ) (u : Bool) → r text ≡ bad t → s text ≡ bad o → cond u t o ≡ rest → Break (Either L M) text rest
      by t o true p q h = let k = e.live text rest (p ∙ ap bad h) in record { before = k.before; is = k.is; goes = one_goes k.before k.goes }
      by t o false p q h = let k = f.live text rest (q ∙ ap bad h) in record { before = k.before; is = k.is; goes = other_goes k.before k.goes }

      go : (a b : Read A) → r text ≡ a → s text ≡ b → farthest a b ≡ bad rest → Break (Either L M) text rest
      go (got u t) b p q h = never h
      go (bad t) (got u o) p q h = never h
      go (bad t) (bad o) p q h = by t o (leb (length t) (length o)) p q (same_rest h)

  local : (p rest other : List ℕ) (b : ℕ) → read (p ++ (b ∷ rest)) ≡ bad (b ∷ rest) → read (p ++ (b ∷ other)) ≡ bad (b ∷ other)
  local p rest other b h = go (r (p ++ (b ∷ rest))) (s (p ++ (b ∷ rest))) refl refl h
    where
      by : (t o : List ℕ) (u : Bool) → leb (length t) (length o) ≡ u → r (p ++ (b ∷ rest)) ≡ bad t → s (p ++ (b ∷ rest)) ≡ bad o
          → cond u t o ≡ b ∷ rest → read (p ++ (b ∷ other)) ≡ bad (b ∷ other)
      by t o true c i j h =
          let n : length t ≡ suc (length rest) = ap length h in let m = leb-true (length t) (length o) c in
          let k = shifted M s f p rest other o b j (omega arith) in
          let z : suc (length other) ≤ length (k.0 ++ (b ∷ other)) = rw (length-append k.0 (b ∷ other)) (omega arith) in
          rw (e.local p rest other b (i ∙ ap bad h), k.2, le-leb (suc (length other)) (length (k.0 ++ (b ∷ other))) z)
      by t o false c i j h =
          let n : length o ≡ suc (length rest) = ap length h in let m = leb-false (length t) (length o) c in
          let k = shifted L r e p rest other t b i (omega arith) in
          let l : length t ≡ length k.0 + suc (length rest) = ap length k.1 ∙ length-append k.0 (b ∷ rest) in
          let g : length (k.0 ++ (b ∷ other)) ≡ length k.0 + suc (length other) = length-append k.0 (b ∷ other) in
          let z : suc (length other) < length (k.0 ++ (b ∷ other)) = omega arith in
          rw (f.local p rest other b (j ∙ ap bad h), k.2, lt-leb (length (k.0 ++ (b ∷ other))) (suc (length other)) z)

      go : (a c : Read A) → r (p ++ (b ∷ rest)) ≡ a → s (p ++ (b ∷ rest)) ≡ c → farthest a c ≡ bad (b ∷ rest) → read (p ++ (b ∷ other)) ≡ bad (b ∷ other)
      go (got u t) c i j h = never h
      go (bad t) (got u o) i j h = never h
      go (bad t) (bad o) i j h = by t o (leb (length t) (length o)) refl i j (same_rest h)

  pub either : Exact (Either L M) (λ text. farthest (r text) (s text))
  either = record { back = back; only = only; live = live; local = local }
