use borrow.Author.Rules.{rules}
use Rattle.step_files.proofs.Files.{file}
use Rattle.step_files.proofs.answer_file.Goals as goal

pub returns-then-out-lt11264 : goal.returns-then-out-lt11264
returns-then-out-lt11264 c = search (file, rules)

pub returns-then-input-lt8 : goal.returns-then-input-lt8
returns-then-input-lt8 c = search (file, rules)

pub returns-then-n-gt-CELLS : goal.returns-then-n-gt-CELLS
returns-then-n-gt-CELLS c = search (file, rules)

pub returns-then-steps-gt256 : goal.returns-then-steps-gt256
returns-then-steps-gt256 c = search (file, rules)

pub returns-then-input-n : goal.returns-then-input-n
returns-then-input-n c = search (file, rules)

pub returns : goal.returns
returns c = search (file, rules)
