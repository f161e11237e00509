-- What the program's own record of the five lines' numbers says.
use Rattle.meaning.specs.Program.{Five}
use Rattle.meaning.specs.Answers.{counts_of}
use Rattle.replay_program.specs.declared.Five.{Five as Numbers}

-- The numbers of the five lines.
abbrev pub five_of : Numbers → Five
five_of r = record { refused = r.refused; line = r.line; counts = counts_of r.counts }
