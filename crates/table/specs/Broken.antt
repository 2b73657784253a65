-- That the clause told is one that the table breaks.
--
--   Broken                      the clauses, one a line, in the words of the check's own tests
--   told_clause_is_broken       what a refused table is told is one of them
--   spare_told .. types_told    a test of the check fails exactly where a word or a fault is told
--   one_telling                 a table is told in one way
--
-- Assumes nothing.
use Rattle.std.specs.Prelude.{ℕ, zero, suc, ◌+◌, ◌-◌, ◌%◌, ◌<◌, ◌≤◌, Bool, true, false, cond, ◌&&◌, ◌||◌, List, [], ◌∷◌, ◌≡◌, refl, eqb, leb, ltb, length}
use Rattle.std.proofs.Common.{sym, ap, ap₂, ◌∙◌, arith, eq-eqb, ne_eqb, lt-ltb, le-ltb, le-leb, leb-false, ltb-false}
use Rattle.std.proofs.Math.Decide.{ℕ_discrete, dec_lt}
use Rattle.std.proofs.lemmas.Bool.{lt-leb, eqb-false}
use Rattle.table.specs.Rows.{Field, spare, value, code, names, allows, field_at, kind_at, word, size, CONST, FOR, ARG, NEXT, END, OUT, used_words, operand_count, first_operand, sort_of, wanted_sort, first_is_a_or_b}
use Rattle.table.specs.Scan.{Loop, stack_at, body_of, read_stack, home, body_open, end_passed, visible}
use Rattle.table.specs.Bodies.{nexts_in}
use Rattle.table.specs.Check.{LENGTH, KIND, SPARE, CODE, PLACE, DEPTH, NAME, TYPE, OPEN, zeros_from, spare_right, is_code, codes_from, code_right, kind_before, follows, arg_left, all_served, outside, stands, place_right, length_right, kind_right, depth_right, end_right, or_else, row_refusal, Refusal, answer, rows_from, table_refusal, names_from, names_right, types_from, types_right}
use Rattle.table.specs.Clauses.{args_in, length_fault, detail, loop_detail, name_detail, explained, Told, first_from, is_zero, spare_word, code_word, follows_fault, next_fault, end_fault, stands_fault, place_fault, sight, hidden_body, is_seen, hidden_word, is_sorted, mistyped_word}

-- one word more: the first failing word is k itself, or a later one
one_more_lem : (b rest : Bool) (x k : ℕ) → 1 ≤ k → rest ≡ eqb x 0 → (b && rest) ≡ eqb (cond b x k) 0
one_more_lem true rest x k h e = e
one_more_lem false rest x k h e = sym (ne_eqb k 0 (λ q. omega arith))

zeros_first : (t : List ℕ) (r m k : ℕ) → 1 ≤ k → zeros_from m t r k ≡ eqb (first_from (is_zero t r) m k) 0
unfolding zeros_from first_from
zeros_first t r zero k h = refl
zeros_first t r (suc m) k h = one_more_lem (eqb (word t r k) 0) _ _ k h (zeros_first t r m (k + 1) (omega arith))

-- 3 IS BROKEN EXACTLY WHERE A WORD IS TOLD
pub spare_told : (t : List ℕ) (r : ℕ) → spare_right t r ≡ eqb (spare_word t r) 0
unfolding spare_right spare_word
spare_told t r = zeros_first t r (5 - used_words (kind_at t r)) (used_words (kind_at t r) + 1) (omega arith)

codes_first : (t : List ℕ) (r m k : ℕ) → 1 ≤ k → codes_from m t r k ≡ eqb (first_from (is_code t r) m k) 0
unfolding codes_from first_from
codes_first t r zero k h = refl
codes_first t r (suc m) k h = one_more_lem (is_code t r k) _ _ k h (codes_first t r m (k + 1) (omega arith))

-- 4 LIKEWISE
pub code_told : (t : List ℕ) (r : ℕ) → code_right t r ≡ eqb (code_word t r) 0
unfolding code_right code_word
code_told t r = codes_first t r 5 1 (omega arith)

follows_told : (b k : ℕ) → follows b k ≡ eqb (follows_fault b k) 0
unfolding follows follows_fault
follows_told b k = go (eqb b OUT) (eqb k OUT) (eqb b NEXT) (eqb k NEXT || eqb k END) (leb k CONST) (leb b CONST) (eqb k ARG) (eqb b FOR || eqb b ARG)
  where
    go : (o p n q i j a f : Bool)
        → cond o p (cond n q (cond i j (cond a f true)))
        ≡ eqb (cond o (cond p 0 1) (cond n (cond q 0 2) (cond i (cond j 0 3) (cond a (cond f 0 4) 0)))) 0
    go true true n q i j a f = refl
    go true false n q i j a f = refl
    go false p true true i j a f = refl
    go false p true false i j a f = refl
    go false p false q true true a f = refl
    go false p false q true false a f = refl
    go false p false q false j true true = refl
    go false p false q false j true false = refl
    go false p false q false j false f = refl

-- a fault that is told where something does not hold
told_where : (b : Bool) (f : ℕ) → b ≡ eqb (cond b 0 (suc f)) 0
told_where true f = refl
told_where false f = sym (ne_eqb (suc f) 0 (λ q. omega arith))

stands_told : (k : ℕ) (s : List Loop) → stands k s ≡ eqb (stands_fault k s) 0
unfolding stands stands_fault
stands_told k s = go (eqb k NEXT) (eqb k END) (eqb k OUT) s
  where
    go : (x e o : Bool) (s : List Loop)
        → cond x (arg_left s) (cond e (all_served s) (cond o (outside s) true))
        ≡ eqb (cond x (next_fault s) (cond e (end_fault s) (cond o (cond (outside s) 0 9) 0))) 0
    go true e o [] = refl
    go true e o (l ∷ s) = told_where (ltb l.nexts l.args) 5
    go false true o [] = refl
    go false true o (l ∷ s) = told_where (eqb l.nexts l.args) 7
    go false false true [] = refl
    go false false true (l ∷ s) = refl
    go false false false s = refl

-- 5 LIKEWISE
pub place_told : (t : List ℕ) (r : ℕ) → place_right t r ≡ eqb (place_fault t r) 0
unfolding place_right place_fault
place_told t r =
    rw (follows_told (kind_before t r) (kind_at t r), stands_told (kind_at t r) (stack_at t r))
    (go (follows_fault (kind_before t r) (kind_at t r)) (stands_fault (kind_at t r) (stack_at t r)))
  where
    go : (f s : ℕ) → (eqb f 0 && eqb s 0) ≡ eqb (cond (eqb f 0) s f) 0
    go zero s = refl
    go (suc f) s = rw (ne_eqb (suc f) 0 (λ q. omega arith)) (sym (ne_eqb (suc f) 0 (λ q. omega arith)))

-- A VALUE IS VISIBLE EXACTLY WHERE NOTHING HIDES IT
pub seen_told : (t : List ℕ) (r v : ℕ) → visible t r v ≡ eqb (sight t r v) 0
unfolding visible sight
seen_told t r v =
    go (ltb v r) (leb (kind_at t v) NEXT) (body_open (size t) (home t v) (read_stack t r)) (end_passed t r v) (body_open (size t) (home t v) (stack_at t r))
  where
    go : (a b c d e : Bool) → (a && (b && (c && d))) ≡ eqb (cond a (cond b (cond c (cond d 0 5) (cond e 4 3)) 2) 1) 0
    go true true true true e = refl
    go true true true false e = refl
    go true true false d true = refl
    go true true false d false = refl
    go true false c d e = refl
    go false b c d e = refl

names_first : (t : List ℕ) (r m k : ℕ) → 1 ≤ k → names_from m t r k ≡ eqb (first_from (is_seen t r) m k) 0
unfolding names_from first_from
names_first t r zero k h = refl
names_first t r (suc m) k h = rw (seen_told t r (word t r k)) (one_more_lem (is_seen t r k) _ _ k h (names_first t r m (k + 1) (omega arith)))

types_first : (t : List ℕ) (r m k : ℕ) → 1 ≤ k → types_from m t r k ≡ eqb (first_from (is_sorted t r) m k) 0
unfolding types_from first_from
types_first t r zero k h = refl
types_first t r (suc m) k h = one_more_lem (is_sorted t r k) _ _ k h (types_first t r m (k + 1) (omega arith))

-- 7 AND 8 LIKEWISE
pub names_told : (t : List ℕ) (r : ℕ) → names_right t r ≡ eqb (hidden_word t r) 0
unfolding names_right hidden_word
names_told t r = names_first t r (operand_count (kind_at t r)) (first_operand (kind_at t r)) (first_is_a_or_b (kind_at t r)).0

pub types_told : (t : List ℕ) (r : ℕ) → types_right t r ≡ eqb (mistyped_word t r) 0
unfolding types_right mistyped_word
types_told t r = types_first t r (operand_count (kind_at t r)) (first_operand (kind_at t r)) (first_is_a_or_b (kind_at t r)).0

-- ---- what each fault says

-- a row of this kind behind one of that kind
pub data Behind (before kind fault : ℕ) : Type 0 where
  behind_out : fault ≡ 1 → before ≡ OUT → (kind ≡ OUT → ⊥) → Behind before kind fault
  behind_next : fault ≡ 2 → before ≡ NEXT → (kind ≡ NEXT → ⊥) → (kind ≡ END → ⊥) → Behind before kind fault
  late_start : fault ≡ 3 → kind ≤ CONST → CONST < before → Behind before kind fault
  late_arg : fault ≡ 4 → kind ≡ ARG → (before ≡ FOR → ⊥) → (before ≡ ARG → ⊥) → Behind before kind fault

-- a row of this kind among the open loops
pub data Among (kind : ℕ) (s : List Loop) (fault : ℕ) : Type 0 where
  lone_next : fault ≡ 5 → kind ≡ NEXT → s ≡ [] → Among kind s fault
  many_nexts : fault ≡ 6 → kind ≡ NEXT → outside s ≡ false → args_in s ≤ nexts_in s → Among kind s fault
  lone_end : fault ≡ 7 → kind ≡ END → s ≡ [] → Among kind s fault
  early_end : fault ≡ 8 → kind ≡ END → outside s ≡ false → (nexts_in s ≡ args_in s → ⊥) → Among kind s fault
  inner_out : fault ≡ 9 → kind ≡ OUT → outside s ≡ false → Among kind s fault

-- value v named in row r, and the loop that hides it
pub data Hidden (t : List ℕ) (r v fault body : ℕ) : Type 0 where
  later : fault ≡ 1 → r ≤ v → Hidden t r v fault body
  valueless : fault ≡ 2 → v < r → NEXT < kind_at t v → Hidden t r v fault body
  closed : fault ≡ 3 → v < r → body ≡ home t v → body_open (size t) body (stack_at t r) ≡ false → Hidden t r v fault body
  entered : fault ≡ 4 → v < r → body ≡ home t v → body_open (size t) body (read_stack t r) ≡ false → body_open (size t) body (stack_at t r) ≡ true → Hidden t r v fault body
  unended : fault ≡ 5 → v < r → body ≡ body_of t v → end_passed t r v ≡ false → Hidden t r v fault body

-- word k of row r names a value
abbrev pub Operand : List ℕ → ℕ → ℕ → Type 0
Operand t r k = (first_operand (kind_at t r) ≤ k) × (k < first_operand (kind_at t r) + operand_count (kind_at t r))

-- THE CLAUSES
pub data Broken (t : List ℕ) (number r fault k body : ℕ) : Type 0 where
  split_row : number ≡ LENGTH → fault ≡ 1 → (length t % 6 ≡ 0 → ⊥) → Broken t number r fault k body
  no_row : number ≡ LENGTH → fault ≡ 2 → size t < 1 → Broken t number r fault k body
  many_rows : number ≡ LENGTH → fault ≡ 3 → 512 < size t → Broken t number r fault k body
  no_kind_lem : number ≡ KIND → OUT < kind_at t r → Broken t number r fault k body
  spare_word_lem : number ≡ SPARE → used_words (kind_at t r) < k → k ≤ 5 → (word t r k ≡ 0 → ⊥) → Broken t number r fault k body
  no_code : (n : ℕ) → number ≡ CODE → field_at (kind_at t r) k ≡ code n → n ≤ word t r k → Broken t number r fault k body
  place_behind : number ≡ PLACE → Behind (kind_before t r) (kind_at t r) fault → Broken t number r fault k body
  place_among : number ≡ PLACE → body ≡ body_of t r → Among (kind_at t r) (stack_at t r) fault → Broken t number r fault k body
  nine_deep : number ≡ DEPTH → body ≡ body_of t r → kind_at t r ≡ FOR → 8 ≤ length (stack_at t r) → Broken t number r fault k body
  hidden_name : number ≡ NAME → Operand t r k → Hidden t r (word t r k) fault body → Broken t number r fault k body
  wrong_sort : number ≡ TYPE → Operand t r k → fault ≡ wanted_sort (kind_at t r) k → (sort_of t (word t r k) ≡ fault → ⊥) → Broken t number r fault k body
  loop_open : number ≡ OPEN → r ≡ size t → body ≡ body_of t r → fault ≡ 1 → outside (stack_at t r) ≡ false → Broken t number r fault k body
  no_out : number ≡ OPEN → r ≡ size t → fault ≡ 2 → outside (stack_at t r) ≡ true → (kind_before t r ≡ OUT → ⊥) → Broken t number r fault k body

-- ---- that they are told

follows_says : (b k : ℕ) → (follows_fault b k ≡ 0 → ⊥) → Behind b k (follows_fault b k)
unfolding follows_fault
follows_says b k n =
    elim (ℕ_discrete b OUT) [
      | yes o ↦ elim (ℕ_discrete k OUT) [ yes e ↦ absurd (n (rw (eq-eqb b OUT o, eq-eqb k OUT e))) | no e ↦ behind_out (rw (eq-eqb b OUT o, ne_eqb k OUT e)) o e ]
      | no o ↦ elim (ℕ_discrete b NEXT) [
        | yes x ↦ elim (ℕ_discrete k NEXT) [
          | yes e ↦ absurd (n (rw (ne_eqb b OUT o, eq-eqb b NEXT x, eq-eqb k NEXT e)))
          | no e ↦ elim (ℕ_discrete k END) [
            | yes d ↦ absurd (n (rw (ne_eqb b OUT o, eq-eqb b NEXT x, ne_eqb k NEXT e, eq-eqb k END d)))
            | no d ↦ behind_next (rw (ne_eqb b OUT o, eq-eqb b NEXT x, ne_eqb k NEXT e, ne_eqb k END d)) x e d
          ]
        ]
        | no x ↦ elim (dec_lt CONST k) [
          | no s ↦ elim (dec_lt CONST b) [
            | no a ↦ absurd (n (rw (ne_eqb b OUT o, ne_eqb b NEXT x, le-leb k CONST (omega arith), le-leb b CONST (omega arith))))
            | yes a ↦ late_start (rw (ne_eqb b OUT o, ne_eqb b NEXT x, le-leb k CONST (omega arith), lt-leb b CONST a)) (omega arith) a
          ]
          | yes s ↦ elim (ℕ_discrete k ARG) [
            | no a ↦ absurd (n (rw (ne_eqb b OUT o, ne_eqb b NEXT x, lt-leb k CONST s, ne_eqb k ARG a)))
            | yes a ↦ elim (ℕ_discrete b FOR) [
              | yes f ↦ absurd (n (rw (ne_eqb b OUT o, ne_eqb b NEXT x, lt-leb k CONST s, eq-eqb k ARG a, eq-eqb b FOR f)))
              | no f ↦ elim (ℕ_discrete b ARG) [
                | yes g ↦ absurd (n (rw (ne_eqb b OUT o, ne_eqb b NEXT x, lt-leb k CONST s, eq-eqb k ARG a, ne_eqb b FOR f, eq-eqb b ARG g)))
                | no g ↦ late_arg (rw (ne_eqb b OUT o, ne_eqb b NEXT x, lt-leb k CONST s, eq-eqb k ARG a, ne_eqb b FOR f, ne_eqb b ARG g)) a f g
              ]
            ]
          ]
        ]
      ]
    ]

stands_says : (k : ℕ) (s : List Loop) → (stands_fault k s ≡ 0 → ⊥) → Among k s (stands_fault k s)
unfolding stands_fault
stands_says k s n =
    elim (ℕ_discrete k NEXT) [
      | yes x ↦ next s x n
      | no x ↦ elim (ℕ_discrete k END) [
        | yes e ↦ end s x e n
        | no e ↦ elim (ℕ_discrete k OUT) [ yes o ↦ out s x e o n | no o ↦ absurd (n (rw (ne_eqb k NEXT x, ne_eqb k END e, ne_eqb k OUT o))) ]
      ]
    ]
  where
    next : (s : List Loop) → k ≡ NEXT → (stands_fault k s ≡ 0 → ⊥) → Among k s (stands_fault k s)
    next [] x n = lone_next (rw x) x refl
    next (l ∷ s) x n =
        elim (dec_lt l.nexts l.args) [
          | yes h ↦ absurd (n (rw (x, lt-ltb l.nexts l.args h)))
          | no h ↦ many_nexts (rw (x, le-ltb l.nexts l.args (omega arith))) x refl (omega arith)
        ]

    end : (s : List Loop) → (k ≡ NEXT → ⊥) → k ≡ END → (stands_fault k s ≡ 0 → ⊥) → Among k s (stands_fault k s)
    end [] x e n = lone_end (rw e) e refl
    end (l ∷ s) x e n =
        elim (ℕ_discrete l.nexts l.args) [
          | yes h ↦ absurd (n (rw (e, eq-eqb l.nexts l.args h)))
          | no h ↦ early_end (rw (e, ne_eqb l.nexts l.args h)) e refl h
        ]

    out : (s : List Loop) → (k ≡ NEXT → ⊥) → (k ≡ END → ⊥) → k ≡ OUT → (stands_fault k s ≡ 0 → ⊥) → Among k s (stands_fault k s)
    out [] x e o n = absurd (n (rw o))
    out (l ∷ s) x e o n = inner_out (rw o) o refl

sight_says : (t : List ℕ) (r v : ℕ) → (sight t r v ≡ 0 → ⊥) → Hidden t r v (sight t r v) (hidden_body t (sight t r v) v)
unfolding sight hidden_body
sight_says t r v n =
    elim (dec_lt v r) [
      | no l ↦ later (rw (le-ltb v r (omega arith))) (omega arith)
      | yes l ↦ elim (dec_lt NEXT (kind_at t v)) [
        | yes q ↦ valueless (rw (lt-ltb v r l, lt-leb (kind_at t v) NEXT q)) l q
        | no q ↦ loops (body_open (size t) (home t v) (read_stack t r)) (end_passed t r v) (body_open (size t) (home t v) (stack_at t r)) l (omega arith) refl refl refl
      ]
    ]
  where
    loops : (c d e : Bool) → v < r → kind_at t v ≤ NEXT → body_open (size t) (home t v) (read_stack t r) ≡ c → end_passed t r v ≡ d → body_open (size t) (home t v) (stack_at t r) ≡ e
        → Hidden t r v (sight t r v) (hidden_body t (sight t r v) v)
    loops true true e l q ec ed ee = absurd (n (rw (lt-ltb v r l, le-leb (kind_at t v) NEXT q, ec, ed)))
    loops true false e l q ec ed ee = let f : sight t r v ≡ 5 = rw (lt-ltb v r l, le-leb (kind_at t v) NEXT q, ec, ed) in unended f l (rw f) ed
    loops false d true l q ec ed ee =
        let f : sight t r v ≡ 4 = rw (lt-ltb v r l, le-leb (kind_at t v) NEXT q, ec, ee) in
        let h : hidden_body t (sight t r v) v ≡ home t v = rw f in
        entered f l h (rw h ec) (rw h ee)
    loops false d false l q ec ed ee =
        let f : sight t r v ≡ 3 = rw (lt-ltb v r l, le-leb (kind_at t v) NEXT q, ec, ee) in
        let h : hidden_body t (sight t r v) v ≡ home t v = rw f in
        closed f l h (rw h ee)

-- the word that is told fails its test
first_fails : (p : ℕ → Bool) (m k : ℕ) → (first_from p m k ≡ 0 → ⊥) → (p (first_from p m k) ≡ false) × (k ≤ first_from p m k) × (first_from p m k < k + m)
unfolding first_from
first_fails p zero k n = absurd (n refl)
first_fails p (suc m) k n = step (p k) refl (first_fails p m (k + 1)) n
  where
    step : {x : ℕ} (b : Bool) → p k ≡ b → ((x ≡ 0 → ⊥) → (p x ≡ false) × (k + 1 ≤ x) × (x < k + 1 + m)) → (cond b x k ≡ 0 → ⊥)
        → (p (cond b x k) ≡ false) × (k ≤ cond b x k) × (cond b x k < k + suc m)
    step true e ih n = let h = ih n in (h.0, omega arith, omega arith)
    step false e ih n = (e, omega arith, omega arith)

-- a test that fails, and what is told by it
fails : {b : Bool} {x : ℕ} → b ≡ eqb x 0 → b ≡ false → x ≡ 0 → ⊥
fails {b} {x} e f = eqb-false x 0 (sym e ∙ f)

length_says : (t : List ℕ) → length_right t ≡ false → Broken t LENGTH 0 (length_fault t) 0 0
unfolding length_right length_fault
length_says t f =
    elim (ℕ_discrete (length t % 6) 0) [
      | no s ↦ split_row refl (rw (ne_eqb (length t % 6) 0 s)) s
      | yes s ↦ elim (dec_lt (size t) 1) [
        | yes z ↦ no_row refl (rw (eq-eqb (length t % 6) 0 s, lt-leb 1 (size t) z)) z
        | no z ↦ many_rows refl (rw (eq-eqb (length t % 6) 0 s, le-leb 1 (size t) (omega arith)))
            (leb-false (size t) 512 (rw (eq-eqb (length t % 6) 0 s, le-leb 1 (size t) (omega arith)) at f))
      ]
    ]

spare_says : (t : List ℕ) (r : ℕ) → spare_right t r ≡ false → Broken t SPARE r 0 (spare_word t r) 0
unfolding spare_word
spare_says t r f =
    let h = first_fails (is_zero t r) (5 - used_words (kind_at t r)) (used_words (kind_at t r) + 1) (fails (spare_told t r) f) in
    spare_word_lem refl (omega arith) (omega arith) (eqb-false _ 0 h.0)

code_says : (t : List ℕ) (r : ℕ) → code_right t r ≡ false → Broken t CODE r 0 (code_word t r) 0
unfolding code_word
code_says t r f =
    let h = first_fails (is_code t r) 5 1 (fails (code_told t r) f) in
    go (field_at (kind_at t r) (code_word t r)) refl h.0
  where
    some_word : true ≡ false → Broken t CODE r 0 (code_word t r) 0
    some_word z = let y : ◌≡◌ {A = ℕ} 0 1 = ap (λ b. cond b 0 1) z in absurd (omega arith)

    go : (u : Field) → field_at (kind_at t r) (code_word t r) ≡ u → allows u (word t r (code_word t r)) ≡ false → Broken t CODE r 0 (code_word t r) 0
    go spare e z = some_word z
    go value e z = some_word z
    go (code n) e z = no_code n refl e (ltb-false _ n z)
    go (names s) e z = some_word z

place_says : (t : List ℕ) (r : ℕ) → place_right t r ≡ false → Broken t PLACE r (place_fault t r) 0 (body_of t r)
unfolding place_fault
place_says t r f = let n = fails {x = place_fault t r} (place_told t r) f in
    elim (ℕ_discrete (follows_fault (kind_before t r) (kind_at t r)) 0) [
      | yes z ↦ let e : place_fault t r ≡ stands_fault (kind_at t r) (stack_at t r) = rw (eq-eqb _ 0 z) in
          rw e (place_among refl refl (stands_says (kind_at t r) (stack_at t r) (λ q. n (e ∙ q))))
      | no z ↦ let e : place_fault t r ≡ follows_fault (kind_before t r) (kind_at t r) = rw (ne_eqb _ 0 z) in
          rw e (place_behind refl (follows_says (kind_before t r) (kind_at t r) z))
    ]

depth_says : (t : List ℕ) (r : ℕ) → depth_right t r ≡ false → Broken t DEPTH r 0 0 (body_of t r)
unfolding depth_right
depth_says t r f =
    elim (ℕ_discrete (kind_at t r) FOR) [
      | yes x ↦ nine_deep refl refl x (ltb-false (length (stack_at t r)) 8 (rw (eq-eqb (kind_at t r) FOR x) at f))
      | no x ↦ let z : true ≡ false = rw (ne_eqb (kind_at t r) FOR x) at f in let y : ◌≡◌ {A = ℕ} 0 1 = ap (λ b. cond b 0 1) z in absurd (omega arith)
    ]

name_says : (t : List ℕ) (r : ℕ) → names_right t r ≡ false → Broken t NAME r (sight t r (word t r (hidden_word t r))) (hidden_word t r) (hidden_body t (sight t r (word t r (hidden_word t r))) (word t r (hidden_word t r)))
unfolding hidden_word
name_says t r f =
    let h = first_fails (is_seen t r) (operand_count (kind_at t r)) (first_operand (kind_at t r)) (fails (names_told t r) f) in
    hidden_name refl (h.1, h.2) (sight_says t r _ (eqb-false _ 0 h.0))

type_says : (t : List ℕ) (r : ℕ) → types_right t r ≡ false → Broken t TYPE r (wanted_sort (kind_at t r) (mistyped_word t r)) (mistyped_word t r) 0
unfolding mistyped_word
type_says t r f =
    let h = first_fails (is_sorted t r) (operand_count (kind_at t r)) (first_operand (kind_at t r)) (fails (types_told t r) f) in
    wrong_sort refl (h.1, h.2) refl (eqb-false _ _ h.0)

open_says : (t : List ℕ) → end_right t ≡ false → Broken t OPEN (size t) (cond (outside (stack_at t (size t))) 2 1) 0 (body_of t (size t))
unfolding end_right
open_says t f = go (outside (stack_at t (size t))) refl f
  where
    go : (b : Bool) → outside (stack_at t (size t)) ≡ b → (b && eqb (kind_before t (size t)) OUT) ≡ false → Broken t OPEN (size t) (cond b 2 1) 0 (body_of t (size t))
    go true e f = no_out refl refl refl e (eqb-false _ OUT f)
    go false e f = loop_open refl refl refl refl e

kind_says : (t : List ℕ) (r : ℕ) → kind_right t r ≡ false → OUT < kind_at t r
unfolding kind_right
kind_says t r f = leb-false (kind_at t r) OUT f

-- a refused row
row_says : (t : List ℕ) (r x : ℕ) → x ≡ row_refusal t r → (x ≡ 0 → ⊥) → Broken t x r (explained t x r).fault (explained t x r).word (explained t x r).body
unfolding row_refusal explained loop_detail name_detail
row_says t r x q n =
    go (kind_right t r) (spare_right t r) (code_right t r) (place_right t r) (depth_right t r) (names_right t r) (types_right t r) refl refl refl refl refl refl refl q
  where
    go : (b2 b3 b4 b5 b6 b7 b8 : Bool) → kind_right t r ≡ b2 → spare_right t r ≡ b3 → code_right t r ≡ b4 → place_right t r ≡ b5 → depth_right t r ≡ b6 → names_right t r ≡ b7 → types_right t r ≡ b8
        → x ≡ or_else b2 2 (or_else b3 3 (or_else b4 4 (or_else b5 5 (or_else b6 6 (or_else b7 7 (or_else b8 8 0))))))
        → Broken t x r (explained t x r).fault (explained t x r).word (explained t x r).body
    go false b3 b4 b5 b6 b7 b8 e2 e3 e4 e5 e6 e7 e8 q = no_kind_lem q (kind_says t r e2)
    go true false b4 b5 b6 b7 b8 e2 e3 e4 e5 e6 e7 e8 q = rw q (spare_says t r e3)
    go true true false b5 b6 b7 b8 e2 e3 e4 e5 e6 e7 e8 q = rw q (code_says t r e4)
    go true true true false b6 b7 b8 e2 e3 e4 e5 e6 e7 e8 q = rw q (place_says t r e5)
    go true true true true false b7 b8 e2 e3 e4 e5 e6 e7 e8 q = rw q (depth_says t r e6)
    go true true true true true false b8 e2 e3 e4 e5 e6 e7 e8 q = rw q (name_says t r e7)
    go true true true true true true false e2 e3 e4 e5 e6 e7 e8 q = rw q (type_says t r e8)
    go true true true true true true true e2 e3 e4 e5 e6 e7 e8 q = absurd (n q)

abbrev number_of_lem : Refusal → ℕ
number_of_lem x = x.number

abbrev row_of : Refusal → ℕ
row_of x = x.row

-- the rows from r0 on: the first that is refused, or the table's end
rows_say : (t : List ℕ) (m r0 number r : ℕ) → r0 + m ≡ size t → answer number r ≡ rows_from m t r0 → (number ≡ 0 → ⊥)
    → Broken t number r (explained t number r).fault (explained t number r).word (explained t number r).body
unfolding rows_from explained loop_detail
rows_say t zero r0 number r s e n = last (end_right t) refl e
  where
    last : (b : Bool) → end_right t ≡ b → answer number r ≡ cond b (answer 0 0) (answer OPEN r0) → Broken t number r (explained t number r).fault (explained t number r).word (explained t number r).body
    last true h e = absurd (n (ap number_of_lem e))
    last false h e = let k : number ≡ OPEN = ap number_of_lem e in let i : r ≡ size t = ap row_of e ∙ (omega arith) in rw (k, i) (open_says t h)
rows_say t (suc m) r0 number r s e n =
    elim (ℕ_discrete (row_refusal t r0) 0) [
      | yes z ↦ rows_say t m (r0 + 1) number r (omega arith) (rw (eq-eqb _ 0 z) at e) n
      | no z ↦ let f = rw (ne_eqb _ 0 z) at e in let i : r ≡ r0 = ap row_of f in rw i (row_says t r0 number (ap number_of_lem f) n)
    ]

table_says : (t : List ℕ) (number r : ℕ) → answer number r ≡ table_refusal t → (number ≡ 0 → ⊥) → Broken t number r (explained t number r).fault (explained t number r).word (explained t number r).body
unfolding table_refusal explained
table_says t number r e n = go (length_right t) refl e
  where
    go : (b : Bool) → length_right t ≡ b → answer number r ≡ cond b (rows_from (size t) t 0) (answer LENGTH 0) → Broken t number r (explained t number r).fault (explained t number r).word (explained t number r).body
    go true h e = rows_say t (size t) 0 number r (omega arith) e n
    go false h e = let k : number ≡ LENGTH = ap number_of_lem e in let i : r ≡ 0 = ap row_of e in rw (k, i) (length_says t h)

-- WHAT A REFUSED TABLE IS TOLD IS A CLAUSE THAT IT BREAKS
pub told_clause_is_broken : (t : List ℕ) (number r f w b a x : ℕ) → Told t number r f w b a x → (number ≡ 0 → ⊥) → Broken t number r f w b
told_clause_is_broken t number r f w b a x T n =
    rw (ap (λ d. d.fault) T.clause, ap (λ d. d.word) T.clause, ap (λ d. d.body) T.clause) (table_says t number r T.refusal n)

-- A TABLE IS TOLD IN ONE WAY
pub one_telling : {t : List ℕ} {n r f w b a x m s g v c d y : ℕ} → Told t n r f w b a x → Told t m s g v c d y → (answer n r ≡ answer m s) × (detail f w b a x ≡ detail g v c d y)
one_telling {t} T U =
    let q = T.refusal ∙ sym U.refusal in
    (q, T.clause ∙ ap₂ (explained t) (ap number_of_lem q) (ap row_of q) ∙ sym U.clause)
