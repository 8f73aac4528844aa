use mathlib.Core.Path.{refl}
use borrow.Author.Rules.{rules}
use Rattle.headers.specs.WellFormed.{shape_of}
use Rattle.headers.proofs.well_formed.Laws.{shape-within}
use Rattle.headers.proofs.well_formed.sort_shape.Goals as goal

pub returns-in-9 : goal.returns-in-9
unfolding shape_of
returns-in-9 c = rw c.in-9.is

pub returns-in-10 : goal.returns-in-10
unfolding shape_of
returns-in-10 c = rw c.in-10.is

pub returns-in-11 : goal.returns-in-11
unfolding shape_of
returns-in-11 c = rw c.in-11.is

pub returns-in-12 : goal.returns-in-12
unfolding shape_of
returns-in-12 c = rw c.in-12.is

pub returns-in-13 : goal.returns-in-13
unfolding shape_of
returns-in-13 c = rw c.in-13.is

pub returns-in-1-to-6 : goal.returns-in-1-to-6
unfolding shape_of
returns-in-1-to-6 c = search (shape-within 1 7)

pub returns-in-7-to-8 : goal.returns-in-7-to-8
unfolding shape_of
returns-in-7-to-8 c = search (shape-within 7 9)

pub returns-in_default : goal.returns-in_default
unfolding shape_of
returns-in_default c = shape-within 0 1 {x = c.args.tag} (search rules) (search rules) refl refl

pub returns-in_default-2 : goal.returns-in_default-2
unfolding shape_of
returns-in_default-2 c = shape-within 14 16 {x = c.args.tag} (search rules) (search rules) refl refl
