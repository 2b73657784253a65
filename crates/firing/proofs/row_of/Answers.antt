-- `firing::row_of` meets its contract. Assumes nothing.
use Rattle.std.proofs.Common.{get_or, ap, ◌+◌}
use Rattle.firing.proofs.Fired.{reads_input0, reads_input1, reads_input2, reads_output0, reads_output1}
use Rattle.firing.proofs.row_of.Goals as goal

pub returns : goal.returns
returns c =
    let g = c.args.graph.now in
    let at = c.row_place-at.ensures in
    record {
      row = record {
        kind = ap (λ p. get_or g p 0) at;
        code = ap (λ p. get_or g (p + 1) 0) at;
        sort = ap (λ p. get_or g (p + 2) 0) at;
        input0 = reads_input0 g c.args.i c.requires.1 at c.then_some.ensures c.inputs_of-inputs.ensures c.wide.ensures.0;
        input1 = reads_input1 g c.args.i c.requires.1 at c.then_some-2.ensures c.inputs_of-inputs.ensures c.wide-2.ensures.0;
        input2 = reads_input2 g c.args.i c.requires.1 at c.then_some-3.ensures c.inputs_of-inputs.ensures c.wide-3.ensures.0;
        output0 = reads_output0 g c.args.i c.requires.1 at c.then_some-4.ensures c.outputs_of-outputs.ensures c.wide-first.ensures.0;
        output1 = reads_output1 g c.args.i c.requires.1 at c.then_some-5.ensures c.outputs_of-outputs.ensures c.wide-first.ensures.0;
      };
    }
