use borrow.Author.Rules.{rules}
use Rattle.appearance.proofs.rows.Numbers.{words_are}
use Rattle.appearance.proofs.rows.make_rows.Goals as goal

pub make_all-requires : goal.make_all-requires
make_all-requires c = (record { indexed_variables = search rules; numbered = search rules; words_value = search words_are; table_len = search rules })
