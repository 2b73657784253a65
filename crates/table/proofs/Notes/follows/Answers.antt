-- `table::Notes::follows` meets its contract. One return for each rule on neighbours. Assumes nothing.
use Rattle.std.proofs.Math.Logic.{inl, inr}
use borrow.Author.Tests.{ne_eqb}
use Rattle.table.specs.declared.Kind.TheVariants.{Arg, Next, End, Out}
use Rattle.table.specs.Clauses.{follows_fault}
use Rattle.table.proofs.Different.{other_kind, early, late, either_way}
use Rattle.table.proofs.Notes.follows.Goals as goal

pub returns-in-Out-kind : goal.returns-in-Out-kind
unfolding follows_fault
returns-in-Out-kind c = rw (c.in-Out.is, c.in-Out-kind.is)

pub returns-in_default : goal.returns-in_default
unfolding follows_fault
returns-in_default c = rw (c.in-Out.is, ne_eqb _ 8 (other_kind Out c.args.kind c.in_default.not-Out))

pub returns-in-Next-kind : goal.returns-in-Next-kind
unfolding follows_fault
returns-in-Next-kind c = elim c.in-Next-kind.is [ inl e ↦ rw (c.in-Next.is, e) | inr e ↦ rw (c.in-Next.is, e) ]

pub returns-in_default-kind : goal.returns-in_default-kind
unfolding follows_fault
returns-in_default-kind c = rw (c.in-Next.is, ne_eqb _ 6 (other_kind Next c.args.kind c.in_default-kind.not-Next), ne_eqb _ 7 (other_kind End c.args.kind c.in_default-kind.not-End))

pub returns-in-Arg : goal.returns-in-Arg
unfolding follows_fault
returns-in-Arg c = elim c.in-Input.is [ inl e ↦ rw (e, c.in-Arg.is) | inr e ↦ rw (e, c.in-Arg.is) ]

pub returns-in_default-kind-2 : goal.returns-in_default-kind-2
unfolding follows_fault
returns-in_default-kind-2 c = let n = ne_eqb _ 5 (other_kind Arg c.args.kind c.in_default-kind-2.not-Arg) in
    elim c.in-Input.is [ inl e ↦ rw (e, n) (either_way _) | inr e ↦ rw (e, n) (either_way _) ]

pub returns-in-Input-kind : goal.returns-in-Input-kind
unfolding follows_fault
returns-in-Input-kind c = let k = early c.args.kind c.in-Input-kind.is in elim c.in-For.is [ inl e ↦ rw (e, k) | inr e ↦ rw (e, k) ]

pub returns-in_default-kind-3 : goal.returns-in_default-kind-3
unfolding follows_fault
returns-in_default-kind-3 c = let k = late c.args.kind c.in_default-kind-3.not-Input c.in_default-kind-3.not-Const in
    elim c.in-For.is [ inl e ↦ rw (e, k) (either_way _) | inr e ↦ rw (e, k) (either_way _) ]

pub returns-in-Input-kind-2 : goal.returns-in-Input-kind-2
unfolding follows_fault
returns-in-Input-kind-2 c = let k = early c.args.kind c.in-Input-kind-2.is in
    elim c.in-Op.is [ inl e ↦ rw (e, k) | inr f ↦ elim f [ inl e ↦ rw (e, k) | inr e ↦ rw (e, k) ] ]

pub returns-in-Arg-kind : goal.returns-in-Arg-kind
unfolding follows_fault
returns-in-Arg-kind c = let k = c.in-Arg-kind.is in
    elim c.in-Op.is [ inl e ↦ rw (e, k) | inr f ↦ elim f [ inl e ↦ rw (e, k) | inr e ↦ rw (e, k) ] ]

pub returns-in_default-kind-4 : goal.returns-in_default-kind-4
unfolding follows_fault
returns-in_default-kind-4 c = let d = c.in_default-kind-4 in let k = late c.args.kind d.not-Input d.not-Const in let n = ne_eqb _ 5 (other_kind Arg c.args.kind d.not-Arg) in
    elim c.in-Op.is [ inl e ↦ rw (e, k, n) | inr f ↦ elim f [ inl e ↦ rw (e, k, n) | inr e ↦ rw (e, k, n) ] ]
