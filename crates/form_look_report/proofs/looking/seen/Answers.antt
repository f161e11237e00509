-- The page's entry, its list and its slot.
use mathlib.Core.Path.{sym, ◌∙◌}
use native.Mathlib.Omega.{arith}
use Rattle.sound.proofs.Entry.{ready}
use Rattle.form_look_report.proofs.Looked.{seen_absent, seen_room, seen_held, seen_ghost}
use Rattle.form_look_report.proofs.looking.seen.Goals as goal

pub find-requires : goal.find-requires
find-requires c = ready c.args.words.now c.requires.0

pub returns-in_default : goal.returns-in_default
returns-in_default c = seen_absent c.args.words.now c.args.page c.requires.0 c.requires.1 c.find.ensures c.in_default.is

pub cell-requires : goal.cell-requires
cell-requires c = (omega arith, seen_room c.args.words.now c.args.page c.requires.0 c.requires.1 c.find.ensures c.in-Some.is)

pub cell-requires-then-is_held : goal.cell-requires-then-is_held
cell-requires-then-is_held c = (omega arith, seen_room c.args.words.now c.args.page c.requires.0 c.requires.1 c.find.ensures c.in-Some.is)

pub returns-then-is_held : goal.returns-then-is_held
returns-then-is_held c = seen_held c.args.words.now c.args.page c.requires.0 c.requires.1 c.find.ensures c.in-Some.is c.cell.ensures (sym c.is_held.ensures ∙ c.if-is_held.true) c.cell-then-is_held.ensures

pub returns : goal.returns
returns c = seen_ghost c.args.words.now c.args.page c.requires.0 c.requires.1 c.find.ensures c.in-Some.is c.cell.ensures (sym c.is_held.ensures ∙ c.if-is_held.false)
