use mathlib.Core.Path.{refl}
use borrow.Author.Rules.{rules}
use Rattle.headers.specs.WellFormed.{shape_of}
use Rattle.headers.proofs.well_formed.Laws.{shape-within}
use Rattle.headers.proofs.well_formed.term_shape.Goals as goal

pub returns-in-20 : goal.returns-in-20
unfolding shape_of
returns-in-20 c = rw c.in-20.is

pub returns-in-21 : goal.returns-in-21
unfolding shape_of
returns-in-21 c = rw c.in-21.is

pub returns-in-22 : goal.returns-in-22
unfolding shape_of
returns-in-22 c = rw c.in-22.is

pub returns-in-27 : goal.returns-in-27
unfolding shape_of
returns-in-27 c = rw c.in-27.is

pub returns-in-16-to-19 : goal.returns-in-16-to-19
unfolding shape_of
returns-in-16-to-19 c = search (shape-within 16 20)

pub returns-in-23-to-26 : goal.returns-in-23-to-26
unfolding shape_of
returns-in-23-to-26 c = shape-within 23 27 {x = c.args.tag} (search rules) (search rules) refl refl

pub returns-in-32-to-166 : goal.returns-in-32-to-166
unfolding shape_of
returns-in-32-to-166 c = search (shape-within 32 167)

pub returns-in_default : goal.returns-in_default
unfolding shape_of
returns-in_default c = shape-within 14 16 {x = c.args.tag} (search rules) (search rules) refl refl

pub returns-in_default-2 : goal.returns-in_default-2
unfolding shape_of
returns-in_default-2 c = shape-within 28 32 {x = c.args.tag} (search rules) (search rules) refl refl

pub returns-in_default-3 : goal.returns-in_default-3
unfolding shape_of
returns-in_default-3 c = shape-within 167 4294967296 {x = c.args.tag} (search rules) (search rules) refl refl
