use Rattle.fresh.proofs.Wiping.{blank_end, blank_low, blank_high, blank_list, blank_mid, blank_rest}
use borrow.Author.Rules.{rules}
use Rattle.fresh.proofs.blank_word.Goals as goal

pub returns-then-a-eq-END : goal.returns-then-a-eq-END
returns-then-a-eq-END c = search (blank_end, rules)

pub returns-then-a-lt16 : goal.returns-then-a-lt16
returns-then-a-lt16 c = search (blank_low, rules)

pub returns-then-n-a : goal.returns-then-n-a
returns-then-n-a c = search (blank_high, rules)

pub returns-then-f-eq-LIST : goal.returns-then-f-eq-LIST
returns-then-f-eq-LIST c = search (blank_list, rules)

pub returns-then-f-lt-MARK : goal.returns-then-f-lt-MARK
returns-then-f-lt-MARK c = search (blank_mid, rules)

pub returns : goal.returns
returns c = search (blank_rest, rules)
