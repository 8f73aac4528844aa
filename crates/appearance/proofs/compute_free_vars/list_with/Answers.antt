use Rattle.appearance.proofs.compute_free_vars.Listing.{list-ask, list-end}
use borrow.Author.Rules.{rules}
use Rattle.appearance.specs.Walk.{Places}
use Rattle.free_variables.specs.Appearing.{appearing_at}
use Rattle.appearance.proofs.compute_free_vars.list_with.Goals as goal

pub compute_free_vars-requires : goal.compute_free_vars-requires
compute_free_vars-requires c = list-ask _ _ _ _ c.requires.indexed_variables _ _ c.make_rows-words.ensures _ c.requires.t_lt_n _ c.requires.fresh _ c.fill_row.ensures _

pub returns : goal.returns
returns c = let p : Places (appearing_at c.args.pool.now.tags.now c.args.pool.now.values.now c.args.t.0) c.compute_free_vars.new.found.places.now c.compute_free_vars.new.found.len =
    list-end _ _ _ _ c.requires.indexed_variables _ _ c.make_rows-words.ensures _ c.requires.t_lt_n _ c.requires.fresh _ c.fill_row.ensures
    _ _ _ _ c.requires.n_in_bounds c.compute_free_vars.ensures.walked in search rules
