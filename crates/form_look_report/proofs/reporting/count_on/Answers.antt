-- CLOCK's pages are counted as held, any other's along the list.
use native.Mathlib.Omega.{arith}
use Rattle.sound.proofs.Entry.{ready}
use Rattle.form_look_report.proofs.Reported.{clock_count, listed_count}
use Rattle.form_look_report.proofs.reporting.count_on.Goals as goal

pub word-requires : goal.word-requires
word-requires c = omega (arith, (ready c.args.words.now c.requires.words_value).repr.holds.size)

pub size-requires : goal.size-requires
size-requires c = record { ready = ready c.args.words.now c.requires.words_value; le_j = c.requires.le_list }

pub returns-then-has_order : goal.returns-then-has_order
returns-then-has_order c = listed_count c.args.words.now c.requires.words_value c.word.ensures c.has_order.ensures c.if-has_order.true c.args.list c.size.ensures.says

pub held-requires : goal.held-requires
held-requires c = ready c.args.words.now c.requires.words_value

pub returns : goal.returns
returns c = clock_count c.args.words.now c.requires.words_value c.word.ensures c.has_order.ensures c.if-has_order.false c.args.list c.held.ensures.says
