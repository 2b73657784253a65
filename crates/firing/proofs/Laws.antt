-- What the code's proofs need: a full mark that is not 0, and the stores of one firing, made one after the other (`acted_is`).
-- Assumes nothing.
use Prim.Native.Nat.{ℕ}
use mathlib.Core.List.{List, ◌++◌}
use mathlib.Core.Path.{◌≡◌, sym, ap, ◌∙◌}
use mathlib.Core.Bool.{false}
use lib.ListN.{get_or}
use Rattle.step.specs.Shown.{given}
use Rattle.step.specs.declared.Act.{Act}
use Rattle.step.specs.declared.Record.{Record}
use Rattle.state.specs.State.{Stores, stored, emptied, filled, kept, stored_append}
use Rattle.firing.specs.Acted.{act_stores}
use Rattle.firing.specs.declared.Row.{Row}

joined : (x1 x2 x3 x4 x5 x6 : Stores) (s s1 s2 s3 s4 s5 s6 : List ℕ) → s1 ≡ stored x1 s → s2 ≡ stored x2 s1 → s3 ≡ stored x3 s2
    → s4 ≡ stored x4 s3 → s5 ≡ stored x5 s4 → s6 ≡ stored x6 s5 → s6 ≡ stored (x1 ++ (x2 ++ (x3 ++ (x4 ++ (x5 ++ x6))))) s
joined x1 x2 x3 x4 x5 x6 s s1 s2 s3 s4 s5 s6 e1 e2 e3 e4 e5 e6 =
    e6 ∙ ap (stored x6) (e5 ∙ ap (stored x5) (e4 ∙ ap (stored x4) (e3 ∙ ap (stored x3) (e2 ∙ ap (stored x2) e1))))
    ∙ sym (stored_append x1 (x2 ++ (x3 ++ (x4 ++ (x5 ++ x6)))) s
    ∙ stored_append x2 (x3 ++ (x4 ++ (x5 ++ x6))) (stored x1 s)
    ∙ stored_append x3 (x4 ++ (x5 ++ x6)) (stored x2 (stored x1 s))
    ∙ stored_append x4 (x5 ++ x6) (stored x3 (stored x2 (stored x1 s)))
    ∙ stored_append x5 x6 (stored x4 (stored x3 (stored x2 (stored x1 s)))))

pub acted_is : (r : Row) (a : Act) (left : Record) (W i : ℕ) (s s1 s2 s3 s4 s5 s6 : List ℕ)
    → s1 ≡ stored (emptied (given r.inputs 0) (get_or a.takes 0 false)) s → s2 ≡ stored (emptied (given r.inputs 1) (get_or a.takes 1 false)) s1
    → s3 ≡ stored (emptied (given r.inputs 2) (get_or a.takes 2 false)) s2 → s4 ≡ stored (filled (given r.outputs 0) (given a.gives 0)) s3
    → s5 ≡ stored (filled (given r.outputs 1) (given a.gives 1)) s4 → s6 ≡ stored (kept W i left) s5
    → s6 ≡ stored (act_stores r a left W i) s
acted_is r a left W i s s1 s2 s3 s4 s5 s6 e1 e2 e3 e4 e5 e6 =
    joined (emptied (given r.inputs 0) (get_or a.takes 0 false)) (emptied (given r.inputs 1) (get_or a.takes 1 false)) (emptied (given r.inputs 2) (get_or a.takes 2 false))
    (filled (given r.outputs 0) (given a.gives 0)) (filled (given r.outputs 1) (given a.gives 1)) (kept W i left) s s1 s2 s3 s4 s5 s6 e1 e2 e3 e4 e5 e6
