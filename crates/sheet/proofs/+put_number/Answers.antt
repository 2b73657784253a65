-- The digits come out in the order of `decimal`, the last one behind the call.
use Rattle.std.proofs.Common.{arith, ap, length}
use Rattle.sheet.specs.Decimal.{one_digit}
use Rattle.sheet.proofs.Writing.{put_one, put_more, room}
use Rattle.sheet.proofs.+put_number.Goals as goal

pub bounds-out-at : goal.bounds-out-at
bounds-out-at t c = let p = c.requires in let e = ap length (one_digit c.args.v c.if-v-lt10.true) in omega arith

pub returns-then-v-lt10 : goal.returns-then-v-lt10
returns-then-v-lt10 t c = put_one _ _ _ c.if-v-lt10.true

pub put_number-p-requires : goal.put_number-p-requires
put_number-p-requires t c = let m = c.decreases in let p = c.requires in let r = room c.args.v c.if-v-lt10.false (omega arith) in (omega arith, omega arith)

pub bounds-out-p : goal.bounds-out-p
bounds-out-p t c =
    let p = c.requires in
    let r = room c.args.v c.if-v-lt10.false (omega arith) in
    let k = c.put_number-p.auto.out in
    let e = c.put_number-p.ensures.1 in
    omega arith

pub overflow_add-result-2 : goal.overflow_add-result-2
overflow_add-result-2 t c =
    let p = c.requires in
    let r = room c.args.v c.if-v-lt10.false (omega arith) in
    let k = c.put_number-p.auto.out in
    let e = c.put_number-p.ensures.1 in
    omega arith

pub returns : goal.returns
returns t c = put_more _ _ _ c.if-v-lt10.false (omega arith) c.put_number-p.ensures.0 c.put_number-p.ensures.1
