-- CLOCK's pages are those of the first entries, any other's those of the list.
use native.Mathlib.Omega.{arith}
use Rattle.sound.proofs.Entry.{ready}
use Rattle.form_look_report.proofs.Reported.{clock_room, clock_written, listed_fits, listed_written}
use Rattle.form_look_report.proofs.reporting.write_list.Goals as goal

pub word-requires : goal.word-requires
word-requires c = omega (arith, (ready c.args.words.now c.requires.words_value).repr.holds.size)

pub write_pages-requires : goal.write_pages-requires
write_pages-requires c = record { ready = ready c.args.words.now c.requires.words_value; le_j = c.requires.le_list; fits = listed_fits c.args.words.now c.requires.words_value c.word.ensures c.has_order.ensures c.if-has_order.true c.args.list c.args.res.now c.requires.le_list c.requires.n_value.0 c.requires.n_value.1 }

pub returns-then-has_order : goal.returns-then-has_order
returns-then-has_order c = listed_written c.args.words.now c.requires.words_value c.word.ensures c.has_order.ensures c.if-has_order.true c.args.list c.write_pages.ensures.copied

pub write_first-requires : goal.write_first-requires
write_first-requires c = (clock_room c.args.words.now c.requires.words_value c.word.ensures c.has_order.ensures c.if-has_order.false c.args.list c.requires.n_value.0, c.requires.n_value.1)

pub returns : goal.returns
returns c = clock_written c.args.words.now c.requires.words_value c.word.ensures c.has_order.ensures c.if-has_order.false c.args.list c.requires.n_value.0 c.args.res.now c.write_first.ensures
