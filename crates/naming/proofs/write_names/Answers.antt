-- `naming::write_names` meets its contract. Each part stands behind the one before, and all of them are the names of the table's graph.
-- Assumes nothing.
use Rattle.naming.proofs.Whole.{rows_room, starts_room, plain_there, outputs_room, wires_there, whats_small, forks_room, legs_room, all_named}
use Rattle.naming.proofs.write_names.Goals as goal

pub name_rows-requires : goal.name_rows-requires
name_rows-requires c = let a = c.args in let q = c.requires in rows_room a.notes.now.passed.words.now a.notes.now.passed.rows c.args.notes.now.passed.passing a.nodes.now a.wires.now q.5 q.6

pub name_starts-behind-requires : goal.name_starts-behind-requires
name_starts-behind-requires c = let a = c.args in let q = c.requires in starts_room a.notes.now.passed.words.now a.notes.now.passed.rows c.args.notes.now.passed.passing a.nodes.now a.wires.now q.5 q.6

pub name_wires-requires : goal.name_wires-requires
name_wires-requires c = let a = c.args in let q = c.requires in let s = c.name_starts-behind.ensures in (plain_there a.notes.now.passed.words.now a.notes.now.passed.rows c.args.notes.now.passed.passing a.nodes.now a.wires.now q.5 q.6 q.1 c.name_rows.ensures s.0 s.1, q.3, outputs_room a.notes.now.passed.words.now a.notes.now.passed.rows c.args.notes.now.passed.passing a.nodes.now a.wires.now q.5 q.6 q.1 c.name_rows.ensures s.0 s.1)

pub name_forks-requires : goal.name_forks-requires
name_forks-requires c = let a = c.args in let q = c.requires in let s = c.name_starts-behind.ensures in let r = c.name_rows.ensures in let w = c.name_wires.ensures in (wires_there a.notes.now.passed.words.now a.notes.now.passed.rows c.args.notes.now.passed.passing a.nodes.now a.wires.now q.5 q.6 q.1 r s.0 s.1 q.2 q.4 q.0 w, q.4, whats_small a.notes.now.passed.words.now a.notes.now.passed.rows c.args.notes.now.passed.passing a.nodes.now a.wires.now q.5 q.6 q.1 r s.0 s.1 q.2 q.4 q.0 w, forks_room a.notes.now.passed.words.now a.notes.now.passed.rows c.args.notes.now.passed.passing a.nodes.now a.wires.now q.5 q.6 q.1 r s.0 s.1 q.2 q.4 q.0 w)

pub name_legs-requires : goal.name_legs-requires
name_legs-requires c = let a = c.args in let q = c.requires in let s = c.name_starts-behind.ensures in let r = c.name_rows.ensures in let w = c.name_wires.ensures in (q.4, legs_room a.notes.now.passed.words.now a.notes.now.passed.rows c.args.notes.now.passed.passing a.nodes.now a.wires.now q.5 q.6 q.1 r s.0 s.1 q.2 q.4 q.0 w)

pub returns : goal.returns
returns c = let a = c.args in let q = c.requires in let s = c.name_starts-behind.ensures in let r = c.name_rows.ensures in let w = c.name_wires.ensures in all_named a.notes.now.passed.words.now a.notes.now.passed.rows c.args.notes.now.passed.passing a.nodes.now a.wires.now q.5 q.6 q.1 r s.0 s.1 q.2 q.4 q.0 w c.name_forks.ensures c.name_legs.ensures
