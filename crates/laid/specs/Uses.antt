-- The uses that lowering lists: each once, and which they are.
--
--   Read                              a use that takes a wire
--   listed_use_reads, listed_use_is   every listed use is one, of a node or of an OUT row
--   node_use_is_listed, result_use_is_listed, uses_once
--   users_are, users_has, users_once  the uses of one wire
--
-- Assumes nothing.
use Rattle.std.specs.Prelude.{ℕ, ◌<◌, ◌⊎◌, true}
use Rattle.std.proofs.Math.Path.{◌≡◌, refl, sym, ap}
use Rattle.std.proofs.Common.{◌∙◌, arith}
use Rattle.std.proofs.Math.Logic.{inl, inr}
use mathlib.Core.List.{List, [], ◌∷◌, ◌++◌}
use Rattle.std.proofs.Math.Option.{Option, none, some}
use Rattle.step.specs.Kinds.{Input, in0, in1, in2}
use Rattle.graph.specs.Graph.{input_place}
use Rattle.table.specs.Rows.{size}
use Rattle.lowered.specs.Gathered.{those, each}
use Rattle.lowered.specs.Roles.{Role, Wire, Use, into, result, same_wire}
use Rattle.lowered.specs.Sources.{source}
use Rattle.lowered.specs.Lower.{roles, taken, use_if, role_uses, is_out, out_rows, uses, keep_if, reader_of, readers_in, users}
use Rattle.laid.specs.Lists.{Among, Once, among_left, among_right, among_split, once_append, each_from, each_has, each_once, those_from, those_has, those_once}
use Rattle.laid.specs.Listed.{Real, listed_role_is_real, real_role_is_listed, roles_once}

module _ (t : List ℕ) where
  pub taken_from_lem : (o : Option Wire) (u p : Use) → Among p (taken o u) → (p ≡ u) × ((w : Wire) × (o ≡ some w))
  taken_from_lem none u p h = absurd h
  taken_from_lem (some w) u p (inl e) = (e, (w, refl))
  taken_from_lem (some w) u p (inr h) = absurd h

  taken_has : (o : Option Wire) (u : Use) (w : Wire) → o ≡ some w → Among u (taken o u)
  taken_has none u w h = let z : ◌≡◌ {A = ℕ} 0 1 = cc in absurd (omega arith)
  taken_has (some x) u w h = inl refl

  taken_once : (o : Option Wire) (u : Use) → Once (taken o u)
  taken_once none u = tt
  taken_once (some w) u = ((λ h. h), tt)

  -- a use that takes a wire
  pub record Read (u : Use) : Type 0 where
    pub wire : Wire
    pub from : source t u ≡ some wire

  read_by : (u p : Use) → Among p (use_if t u) → (p ≡ u) × Read p
  read_by u p h = let k = taken_from_lem (source t u) u p h in (k.0, record { wire = k.1.0; from = ap (source t) k.0 ∙ k.1.1 })

  abbrev OfRole : Role → Use → Type 0
  OfRole n u = (k : Input) × (u ≡ into n k) × Read u

  role_uses_from : (n : Role) (u : Use) → Among u (role_uses t n) → OfRole n u
  role_uses_from n u h =
      elim (among_split u (use_if t (into n in0)) (use_if t (into n in1) ++ use_if t (into n in2)) h) [
        | inl a ↦ (let g = read_by (into n in0) u a in (in0, g.0, g.1))
        | inr a ↦ elim (among_split u (use_if t (into n in1)) (use_if t (into n in2)) a) [
          | inl b ↦ (let g = read_by (into n in1) u b in (in1, g.0, g.1))
          | inr b ↦ (let g = read_by (into n in2) u b in (in2, g.0, g.1))
        ]
      ]

  role_uses_has : (n : Role) (k : Input) (w : Wire) → source t (into n k) ≡ some w → Among (into n k) (role_uses t n)
  role_uses_has n in0 w e = among_left (into n in0) (use_if t (into n in0)) (use_if t (into n in1) ++ use_if t (into n in2)) (taken_has (source t (into n in0)) (into n in0) w e)
  role_uses_has n in1 w e =
      among_right (into n in1) (use_if t (into n in0)) (use_if t (into n in1) ++ use_if t (into n in2))
      (among_left (into n in1) (use_if t (into n in1)) (use_if t (into n in2)) (taken_has (source t (into n in1)) (into n in1) w e))
  role_uses_has n in2 w e =
      among_right (into n in2) (use_if t (into n in0)) (use_if t (into n in1) ++ use_if t (into n in2))
      (among_right (into n in2) (use_if t (into n in1)) (use_if t (into n in2)) (taken_has (source t (into n in2)) (into n in2) w e))

  role_uses_once : (n : Role) → Once (role_uses t n)
  role_uses_once n =
      once_append (use_if t (into n in0)) (use_if t (into n in1) ++ use_if t (into n in2)) (taken_once (source t (into n in0)) (into n in0))
      (once_append (use_if t (into n in1)) (use_if t (into n in2)) (taken_once (source t (into n in1)) (into n in1)) (taken_once (source t (into n in2)) (into n in2))
      (λ u a b. differ in1 in2 1 2 refl refl (λ e. omega arith) (read_by (into n in1) u a).0 (read_by (into n in2) u b).0))
      (λ u a b. elim (among_split u (use_if t (into n in1)) (use_if t (into n in2)) b) [
        | inl c ↦ differ in0 in1 0 1 refl refl (λ e. omega arith) (read_by (into n in0) u a).0 (read_by (into n in1) u c).0
        | inr c ↦ differ in0 in2 0 2 refl refl (λ e. omega arith) (read_by (into n in0) u a).0 (read_by (into n in2) u c).0
      ])
    where
      differ : {u : Use} (k l : Input) (i j : ℕ) → input_place k ≡ i → input_place l ≡ j → (i ≡ j → ⊥) → u ≡ into n k → u ≡ into n l → ⊥
      differ k l i j a b h p q = let e : k ≡ l = cc in h (sym a ∙ ap input_place e ∙ b)

  result_uses_from : (q : ℕ) (u : Use) → Among u (use_if t (result q)) → (u ≡ result q) × Read u
  result_uses_from q u h = read_by (result q) u h

  pub listed_use_reads : (u : Use) → Among u (uses t) → Read u
  unfolding uses
  listed_use_reads u h =
      elim (among_split u (each (role_uses t) (roles t)) (each (λ q. use_if t (result q)) (out_rows t)) h) [
        | inl k ↦ let r = each_from (role_uses t) (roles t) u k in (role_uses_from r.0 u r.2).2
        | inr k ↦ let r = each_from (λ q. use_if t (result q)) (out_rows t) u k in (result_uses_from r.0 u r.2).1
      ]

  -- a listed use is an input of a node of the table, or the result of an OUT row
  pub listed_use_is : (u : Use) → Among u (uses t) → ((n : Role) × (k : Input) × Real t n × (u ≡ into n k)) ⊎ ((q : ℕ) × (q < size t) × (is_out t q ≡ true) × (u ≡ result q))
  unfolding uses out_rows
  listed_use_is u h =
      elim (among_split u (each (role_uses t) (roles t)) (each (λ q. use_if t (result q)) (those (is_out t) (size t))) h) [
        | inl k ↦ let r = each_from (role_uses t) (roles t) u k in
            let f = role_uses_from r.0 u r.2 in inl (r.0, f.0, listed_role_is_real t r.0 r.1, f.1)
        | inr k ↦ let r = each_from (λ q. use_if t (result q)) (those (is_out t) (size t)) u k in
            let o = those_from (is_out t) (size t) r.0 r.1 in inr (r.0, o.0, o.1, (result_uses_from r.0 u r.2).0)
      ]

  pub node_use_is_listed : (n : Role) (k : Input) (w : Wire) → Real t n → source t (into n k) ≡ some w → Among (into n k) (uses t)
  unfolding uses
  node_use_is_listed n k w l e =
      among_left (into n k) (each (role_uses t) (roles t)) (each (λ q. use_if t (result q)) (out_rows t))
      (each_has (role_uses t) (roles t) (into n k) n (real_role_is_listed t n l) (role_uses_has n k w e))

  pub result_use_is_listed : (q : ℕ) (w : Wire) → q < size t → is_out t q ≡ true → source t (result q) ≡ some w → Among (result q) (uses t)
  unfolding uses out_rows
  result_use_is_listed q w l o e =
      among_right (result q) (each (role_uses t) (roles t)) (each (λ q. use_if t (result q)) (those (is_out t) (size t)))
      (each_has (λ q. use_if t (result q)) (those (is_out t) (size t)) (result q) q (those_has (is_out t) (size t) q l o) (taken_has (source t (result q)) (result q) w e))

  pub uses_once : Once (uses t)
  unfolding uses out_rows
  uses_once =
      once_append (each (role_uses t) (roles t)) (each (λ q. use_if t (result q)) (those (is_out t) (size t)))
      (each_once (role_uses t) one_role role_uses_once (roles t) (roles_once t))
      (each_once (λ q. use_if t (result q)) one_row (λ q. taken_once (source t (result q)) (result q)) (those (is_out t) (size t)) (those_once (is_out t) (size t)))
      apart
    where
      one_role : (n m : Role) (u : Use) → Among u (role_uses t n) → Among u (role_uses t m) → n ≡ m
      one_role n m u p q =
          let a = role_uses_from n u p in
          let b = role_uses_from m u q in
          let e : into n a.0 ≡ into m b.0 = sym a.1 ∙ b.1 in
          cc

      one_row : (p q : ℕ) (u : Use) → Among u (use_if t (result p)) → Among u (use_if t (result q)) → p ≡ q
      one_row p q u a b = let e : result p ≡ result q = sym (result_uses_from p u a).0 ∙ (result_uses_from q u b).0 in cc

      apart : (u : Use) → Among u (each (role_uses t) (roles t)) → Among u (each (λ q. use_if t (result q)) (those (is_out t) (size t))) → ⊥
      apart u p q =
          let a = each_from (role_uses t) (roles t) u p in
          let b = each_from (λ q. use_if t (result q)) (those (is_out t) (size t)) u q in
          let x = role_uses_from a.0 u a.2 in
          let e : into a.0 x.0 ≡ result b.0 = sym x.1 ∙ (result_uses_from b.0 u b.2).0 in
          let z : ◌≡◌ {A = ℕ} 0 1 = cc in
          omega arith

  -- ---- the uses of one wire
  readers_are : (w : Wire) (us : List Use) (u : Use) → Among u (readers_in t w us) → (source t u ≡ some w) × Among u us
  unfolding readers_in
  readers_are w [] u h = absurd h
  readers_are w (p ∷ us) u h = go (source t p) refl h (readers_are w us u)
    where
      go : (o : Option Wire) → source t p ≡ o → Among u (reader_of w o p (readers_in t w us)) → (Among u (readers_in t w us) → (source t u ≡ some w) × Among u us)
          → (source t u ≡ some w) × ((u ≡ p) ⊎ Among u us)
      go none q k ih = let z = ih k in (z.0, inr z.1)
      go (some x) q k ih = two (same_wire x w) k
        where
          two : (d : Dec (x ≡ w)) → Among u (keep_if d p (readers_in t w us)) → (source t u ≡ some w) × ((u ≡ p) ⊎ Among u us)
          two (yes e) (inl k) = (ap (source t) k ∙ q ∙ ap some e, inl k)
          two (yes e) (inr k) = let z = ih k in (z.0, inr z.1)
          two (no e) k = let z = ih k in (z.0, inr z.1)

  readers_has : (w : Wire) (us : List Use) (u : Use) → Among u us → source t u ≡ some w → Among u (readers_in t w us)
  unfolding readers_in
  readers_has w [] u h e = absurd h
  readers_has w (p ∷ us) u h e = go (source t p) refl h (λ k. readers_has w us u k e)
    where
      go : (o : Option Wire) → source t p ≡ o → (u ≡ p) ⊎ Among u us → (Among u us → Among u (readers_in t w us)) → Among u (reader_of w o p (readers_in t w us))
      go none q (inl k) ih = let e' : source t p ≡ some w = ap (source t) (sym k) ∙ e in let z : ◌≡◌ {A = ℕ} 0 1 = cc in absurd (omega arith)
      go none q (inr k) ih = ih k
      go (some x) q k ih = two (same_wire x w) k
        where
          two : (d : Dec (x ≡ w)) → (u ≡ p) ⊎ Among u us → Among u (keep_if d p (readers_in t w us))
          two (yes d) (inl k) = inl k
          two (yes d) (inr k) = inr (ih k)
          two (no d) (inl k) = let e' : some x ≡ some w = sym q ∙ ap (source t) (sym k) ∙ e in absurd (d (cc))
          two (no d) (inr k) = ih k

  readers_once : (w : Wire) (us : List Use) → Once us → Once (readers_in t w us)
  unfolding readers_in
  readers_once w [] o = tt
  readers_once w (p ∷ us) o = go (source t p) (readers_once w us o.1)
    where
      go : (x : Option Wire) → Once (readers_in t w us) → Once (reader_of w x p (readers_in t w us))
      go none ih = ih
      go (some x) ih = two (same_wire x w)
        where
          two : (d : Dec (x ≡ w)) → Once (keep_if d p (readers_in t w us))
          two (yes d) = (λ h. o.0 (readers_are w us p h).1, ih)
          two (no d) = ih

  pub users_are : (w : Wire) (u : Use) → Among u (users t w) → (source t u ≡ some w) × Among u (uses t)
  unfolding users
  users_are w u h = readers_are w (uses t) u h

  pub users_has : (w : Wire) (u : Use) → Among u (uses t) → source t u ≡ some w → Among u (users t w)
  unfolding users
  users_has w u h e = readers_has w (uses t) u h e

  pub users_once : (w : Wire) → Once (users t w)
  unfolding users
  users_once w = readers_once w (uses t) uses_once
