-- What is left of the entries is stored from i on.
use Rattle.std.proofs.Common.{◌≡◌, ◌-◌, length}
use Rattle.std.proofs.lemmas.List.Edits.{sets}
use Rattle.meaning.specs.Base.{series}
use Rattle.meaning.specs.Rules.{page_in}
use Rattle.form_look_report.proofs.reporting.write_first.Given as goal

abbrev pub invariant-loop-i : goal.invariant-loop-i
invariant-loop-i l = (sets l.res l.i (series (page_in l.words) (l.n - l.i) l.i) ≡ sets l.fn.res 0 (series (page_in l.words) (l.n - 0) 0)) × (length l.res ≡ length l.fn.res)
