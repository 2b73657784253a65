-- Forks and drains by number: how many a wire adds, which numbers are free for them, and their rows.
--
--   added_nodes, added_wires        what k uses of a wire add
--   free_of                        the first free number when a wire's turn comes
--   Freed                         a table of the free numbers
--   fork_words                     the words of the forks of one wire
--
-- Assumes nothing.
use Prim.Native.Nat.{ℕ, zero, suc, ◌+◌, ◌-◌, ◌*◌, ◌<◌, ◌≤◌}
use Rattle.std.specs.Prelude.{◌≡◌, refl, cond, List, [], ◌∷◌, ◌++◌, eqb, length, get_or}
use native.Mathlib.Omega.{arith}
use Rattle.std.proofs.Common.{ne_eqb, length-append}
use Rattle.graph.specs.Below.{total, joined}
use Rattle.lowered.specs.Gathered.{each}
use Rattle.lowered.specs.Lower.{node_words}
use Rattle.written.specs.Words.{fork_list}
use Rattle.forking.specs.Tallied.{Below}

abbrev pub added_wires : ℕ → ℕ
added_wires k = 2 * (k - 1)

abbrev pub added_nodes : ℕ → ℕ
added_nodes k = cond (eqb k 0) 1 (k - 1)

abbrev pub wires_by : List ℕ → ℕ → ℕ
wires_by uses w = added_wires (get_or uses w 0)

abbrev pub nodes_by : List ℕ → ℕ → ℕ
nodes_by uses w = added_nodes (get_or uses w 0)

abbrev pub free_of : List ℕ → ℕ → ℕ → ℕ
free_of uses wires w = wires + total (wires_by uses) w

-- the table of free numbers is filled, and the totals are known
pub record Freed (uses : List ℕ) (W : ℕ) (table : List ℕ) (more added : ℕ) : Type 0 where
  pub free : (w : ℕ) → w < W → get_or table w 0 ≡ free_of uses W w
  pub small : Below 700000000 table
  pub nodes : more ≡ total (nodes_by uses) W
  pub wires : added ≡ total (wires_by uses) W
  pub nodes_low : more ≤ 400000000
  pub wires_low : added ≤ 700000000

-- the words of the forks of wire x: its sort, how many uses it has, the next free number
unfoldable pub fork_words : ℕ → ℕ → ℕ → ℕ → List ℕ
fork_words s x k f = each node_words (fork_list s x k f)

-- of wire w, from the tables
abbrev pub fork_words_by : List ℕ → List ℕ → List ℕ → ℕ → List ℕ
fork_words_by sorts uses free w = fork_words (get_or sorts w 0) w (get_or uses w 0) (get_or free w 0)

-- ---- laws

pub added_nodes_low : (k : ℕ) → k ≤ 40000 → added_nodes k ≤ 40000
added_nodes_low zero h = omega arith
added_nodes_low (suc k) h = rw (ne_eqb (suc k) 0 (λ e. omega arith)) (omega arith)

pub fork_words_long : (s x k f : ℕ) → length (fork_words s x k f) ≡ 7 * added_nodes k
unfolding fork_words each fork_list
fork_words_long s x zero f = refl
fork_words_long s x (suc zero) f = refl
fork_words_long s x (suc (suc k)) f = go (fork_words_long s (suc f) (suc k) (suc (suc f)))
  where
    go : length (each node_words (fork_list s (suc f) (suc k) (suc (suc f)))) ≡ 7 * added_nodes (suc k)
        → suc (suc (suc (suc (suc (suc (suc (length (each node_words (fork_list s (suc f) (suc k) (suc (suc f))))))))))) ≡ 7 * added_nodes (suc (suc k))
    go h =
        let h' : length (each node_words (fork_list s (suc f) (suc k) (suc (suc f)))) ≡ 7 * (suc k - 1) = rw (ne_eqb (suc k) 0 (λ z. omega arith)) at h in
        rw (ne_eqb (suc (suc k)) 0 (λ z. omega arith)) (omega arith)

pub fork_words_all : (sorts uses free : List ℕ) (n : ℕ) → length (joined (fork_words_by sorts uses free) n) ≡ 7 * total (nodes_by uses) n
unfolding joined total
fork_words_all sorts uses free zero = refl
fork_words_all sorts uses free (suc n) =
    let r = fork_words_all sorts uses free n in
    let e = fork_words_long (get_or sorts n 0) n (get_or uses n 0) (get_or free n 0) in
    let a = length-append (joined (fork_words_by sorts uses free) n) (fork_words_by sorts uses free n) in
    omega arith

module _ (s x f : ℕ) where
  pub fork_words_none : {k : ℕ} → k ≡ 0 → fork_words s x k f ≡ 6 ∷ 0 ∷ s ∷ x ∷ 4294967295 ∷ 4294967295 ∷ 4294967295 ∷ []
  unfolding fork_words each fork_list
  fork_words_none e = rw e

  pub fork_words_one : {k : ℕ} → k ≡ 1 → fork_words s x k f ≡ []
  unfolding fork_words each fork_list
  fork_words_one e = rw e

  pub fork_words_more : (k : ℕ) → 1 < k → fork_words s x k f ≡ (5 ∷ 0 ∷ s ∷ x ∷ 4294967295 ∷ 4294967295 ∷ f ∷ []) ++ fork_words s (f + 1) (k - 1) (f + 2)
  unfolding fork_words each fork_list
  fork_words_more zero h = absurd (omega arith)
  fork_words_more (suc zero) h = absurd (omega arith)
  fork_words_more (suc (suc k)) h =
      let a : f + 1 ≡ suc f = omega arith in
      let b : f + 2 ≡ suc (suc f) = omega arith in
      let c : suc (suc k) - 1 ≡ suc k = omega arith in
      rw (a, b, c)
