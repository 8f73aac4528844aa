-- Formulas: a term's connectives and quantifiers, down to what is opaque.
-- 01, "Normal form and clauses": "`not` with 1 operand flips the polarity; `and`, `or` of any length; `=>` with 2; `ite` with 3; `=` with 2
-- whose left has sort Bool; forall and exists. These are the connectives and quantifiers of demand 3. Any other count or term is opaque".
-- Rests on cells' ByPlace, Cell and Place, and on the enums `View`, `ConnectiveKind` and `QuantifierKind`.
use Rattle.std.specs.Prelude.{ℕ, Bool, true, false, ◌&&◌, cond, List, [], ◌∷◌, length, get_or, drop, ltb, eqb}
use Rattle.cells.specs.Cell.{sort_of, operands_of}
use Rattle.cells.specs.ByPlace.{by_place}
use Rattle.cells.specs.Place.{term_at}
use Rattle.formulas.specs.declared.kinds.ConnectiveKind.{ConnectiveKind}
use Rattle.formulas.specs.declared.kinds.ConnectiveKind.TheVariants.{And, Or}
use Rattle.formulas.specs.declared.kinds.QuantifierKind.{QuantifierKind}
use Rattle.formulas.specs.declared.kinds.QuantifierKind.TheVariants.{Forall, Exists}
use Rattle.formulas.specs.declared.view.View.{View}
use Rattle.formulas.specs.declared.view.View.TheVariants.{Opaque, Not, AndOr, Implies, Ite, Iff, Quantifier}

-- over leaves L, the opaque terms, and binding lists B: places and cells of a pool, or trees and variables
mutual
  pub data Form (B L : Type 0) : Type 0 where
    opaque : L → Form B L
    neg : Form B L → Form B L
    many : Bool → Forms B L → Form B L  -- and (true), or (false)
    imp : Form B L → Form B L → Form B L
    ite : Form B L → Form B L → Form B L → Form B L
    iff : Form B L → Form B L → Form B L
    all : Bool → B → Form B L → Form B L  -- forall (true), exists (false)

  pub data Forms (B L : Type 0) : Type 0 where
    fnil : Forms B L
    fcons : Form B L → Forms B L → Forms B L

-- the code's kinds, as forms carry them
abbrev pub is_and : ConnectiveKind → Bool
is_and And = true
is_and Or = false

abbrev pub is_forall : QuantifierKind → Bool
is_forall Forall = true
is_forall Exists = false

-- the tags of `and` (true) and `or`, of forall (true) and exists
abbrev pub connective_tag : Bool → ℕ
connective_tag true = 36
connective_tag false = 37

abbrev pub quantifier_tag : Bool → ℕ
quantifier_tag true = 23
quantifier_tag false = 24

-- every operand stands before t, as it does in a checked pool
unfoldable pub all_before : ℕ → List ℕ → Bool
all_before t [] = true
all_before t (u ∷ us) = ltb u t && all_before t us

-- `=` with 2 whose left has sort Bool, the sort at place 0
unfoldable pub equality : List ℕ → List ℕ → View
equality values os =
    cond (eqb (length os) 2)
    (cond (eqb (sort_of values (get_or os 0 0)) 0) (Iff (term_at (get_or os 0 0)) (term_at (get_or os 1 0))) Opaque)
    Opaque

-- an operator's term, by its tag and its operands; values gives the operands' sorts
unfoldable pub connective : List ℕ → ℕ → List ℕ → View
connective values tag os =
    cond (eqb tag 36) (AndOr And)
    (cond (eqb tag 37) (AndOr Or)
    (cond (eqb tag 39) (equality values os)
    (cond (eqb tag 34) (cond (eqb (length os) 1) (Not (term_at (get_or os 0 0))) Opaque)
    (cond (eqb tag 35) (cond (eqb (length os) 2) (Implies (term_at (get_or os 0 0)) (term_at (get_or os 1 0))) Opaque)
    (cond (eqb tag 41) (cond (eqb (length os) 3) (Ite (term_at (get_or os 0 0)) (term_at (get_or os 1 0)) (term_at (get_or os 2 0))) Opaque)
    Opaque)))))

-- a quantifier's term, by its tag and its body
unfoldable pub quantifier : ℕ → ℕ → View
quantifier tag body = cond (eqb tag 23) (Quantifier Forall (term_at body)) (cond (eqb tag 24) (Quantifier Exists (term_at body)) Opaque)

-- how the term at t is read
unfoldable pub view_of : List ℕ → List ℕ → ℕ → View
view_of tags values t =
    cond (ltb (get_or tags t 0) 32)
    (cond (ltb (get_or (operands_of tags values t) 0 0) t) (quantifier (get_or tags t 0) (get_or (operands_of tags values t) 0 0)) Opaque)
    (cond (all_before t (operands_of tags values t)) (connective values (get_or tags t 0) (operands_of tags values t)) Opaque)

abbrev pub forms_of : {B L : Type 0} → (ℕ → Form B L) → List ℕ → Forms B L
forms_of f [] = fnil
forms_of f (u ∷ us) = fcons (f u) (forms_of f us)

-- a term's formula from how it is read, its operand run and the formulas of the terms before it; bindings are a quantifier's cells
unfoldable pub form_by : View → ℕ → List ℕ → (ℕ → Form (List ℕ) ℕ) → Form (List ℕ) ℕ
form_by Opaque t run rec = opaque t
form_by (Not a) t run rec = neg (rec a.0)
form_by (AndOr b) t run rec = many (is_and b) (forms_of rec run)
form_by (Implies a b) t run rec = imp (rec a.0) (rec b.0)
form_by (Ite a b c) t run rec = ite (rec a.0) (rec b.0) (rec c.0)
form_by (Iff a b) t run rec = iff (rec a.0) (rec b.0)
form_by (Quantifier b body) t run rec = all (is_forall b) (drop 1 run) (rec body.0)

-- the formula of the term at t, over places and cells
unfoldable pub form : List ℕ → List ℕ → ℕ → Form (List ℕ) ℕ
form tags values t = by_place (λ u rec. form_by (view_of tags values u) u (operands_of tags values u) rec) (opaque 0) t
