use borrow.Author.Rules.{rules}
use Rattle.clauses.proofs.totals.Laws.{fresh}
use Rattle.clauses.proofs.clause_list.Laws.{many-clauses, many-literals, fits-answer, fits-ask}
use Rattle.clauses.proofs.clause_list.list_counted.Goals.{then-totals-gt-MAX_CLAUSES-via-then-totals-gt-MAX_CLAUSES, then-totals-gt-MAX_CLAUSES-via-else-totals-gt-MAX_CLAUSES+then-totals-gt-MAX_LITERALS}
use Rattle.clauses.proofs.clause_list.list_counted.Goals as goal

pub list_totals-totals-requires : goal.list_totals-totals-requires
list_totals-totals-requires c = fresh _ _ 8192 (search rules)

pub returns-then-totals-gt-MAX_CLAUSES : goal.returns-then-totals-gt-MAX_CLAUSES
returns-then-totals-gt-MAX_CLAUSES c =
    elim c.then-totals-gt-MAX_CLAUSES.branch [
      | then-totals-gt-MAX_CLAUSES-via-then-totals-gt-MAX_CLAUSES w ↦
          many-clauses _ _ _ _ _ c.requires _ _ _ c.list_totals-totals.ensures w.if-totals-gt-MAX_CLAUSES.true
      | then-totals-gt-MAX_CLAUSES-via-else-totals-gt-MAX_CLAUSES+then-totals-gt-MAX_LITERALS w ↦
          many-literals _ _ _ _ _ c.requires _ _ _ c.list_totals-totals.ensures w.if-totals-gt-MAX_CLAUSES.false w.if-totals-gt-MAX_LITERALS.true
    ]

pub write_all-requires : goal.write_all-requires
write_all-requires c = search fits-ask

pub returns : goal.returns
returns c = search fits-answer
