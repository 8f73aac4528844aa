-- Putting terms into a pool, and what the calls that build leave in it.
-- 01, "Normal form and clauses": "New terms go after the count in the order of the finished term, operands first and left to right, each
-- once." A pool here is its used cells alone: two lists of one length.
-- Rests on cells' ByPlace, Cell and Place, on descriptions' Description, and on Formula, Normal and the enums `NormalView` and
-- `ConnectiveKind`.
use Rattle.std.specs.Prelude.{ℕ, Bool, true, false, cond, List, [], ◌∷◌, ◌++◌, length, get_or, drop, replicate, eqb, ltb, Option, Some, None}
use Rattle.cells.specs.Cell.{operands_of}
use Rattle.cells.specs.ByPlace.{by_place}
use Rattle.cells.specs.Place.{term_at}
use Rattle.descriptions.specs.Description.{find}
use Rattle.formulas.specs.declared.kinds.ConnectiveKind.TheVariants.{And, Or}
use Rattle.formulas.specs.declared.view.NormalView.{NormalView}
use Rattle.formulas.specs.declared.view.NormalView.TheVariants.{Literal, Connective, Forall}
use Rattle.formulas.specs.Formula.{is_and, connective_tag, quantifier_tag, form, all_before}
use Rattle.formulas.specs.Normal.{Normal, Normals, lit, nmany, nall, nnil, ncons, nnf, prenex}

pub record Pool : Type 0 where
  pub tags : List ℕ
  pub values : List ℕ

-- a pool, and a place in it
pub record Placed : Type 0 where
  pub pool : Pool
  pub place : ℕ

pub record PlacedAll : Type 0 where
  pub pool : Pool
  pub places : List ℕ

abbrev pub count : Pool → ℕ
count q = length q.tags

-- the pool with one more header
abbrev pub extend : Pool → ℕ → List ℕ → Pool
extend q tag cells = record { tags = q.tags ++ (tag ∷ replicate (length cells) 0); values = q.values ++ (length cells ∷ cells) }

abbrev pub place_at : Pool → ℕ → List ℕ → Option ℕ → Placed
place_at q tag cells (Some p) = record { pool = q; place = p }
place_at q tag cells None = record { pool = extend q tag cells; place = count q }

-- a description is put into a pool: "a description that is already in the pool is not added"
unfoldable pub put : Pool → ℕ → List ℕ → Placed
put q tag cells = place_at q tag cells (find q.tags q.values (count q) tag cells)

-- a form over places is put into a pool, its operands first, left to right; the first cell 0 is the sort Bool
unfoldable mutual
  pub intern : Normal (List ℕ) ℕ → Pool → Placed
  intern (lit true x) q = record { pool = q; place = x }
  intern (lit false x) q = put q 34 (0 ∷ x ∷ [])
  intern (nmany b ns) q = let r = interns ns q in put r.pool (connective_tag b) (0 ∷ r.places)
  intern (nall b vs n) q = let r = intern n q in put r.pool (quantifier_tag b) (0 ∷ r.place ∷ vs)

  pub interns : Normals (List ℕ) ℕ → Pool → PlacedAll
  interns nnil q = record { pool = q; places = [] }
  interns (ncons n ns) q =
      let r = intern n q in
      let s = interns ns r.pool in
      record { pool = s.pool; places = r.place ∷ s.places }

-- ---- the normal form of the term at t at a polarity
unfoldable pub normal_form : Pool → ℕ → Bool → Placed
normal_form q t polarity = intern (nnf (form q.tags q.values t) polarity) q

-- ---- a term in normal form, read back from its place: a term that is no `and`, `or` or forall is a literal
unfoldable pub normal_view : List ℕ → List ℕ → ℕ → NormalView
normal_view tags values x =
    cond (eqb (get_or tags x 0) 23)
    (cond (ltb (get_or (operands_of tags values x) 0 0) x) (Forall (term_at (get_or (operands_of tags values x) 0 0))) Literal)
    (cond (all_before x (operands_of tags values x))
    (cond (eqb (get_or tags x 0) 36) (Connective And) (cond (eqb (get_or tags x 0) 37) (Connective Or) Literal))
    Literal)

abbrev pub normals_of : (ℕ → Normal (List ℕ) ℕ) → List ℕ → Normals (List ℕ) ℕ
normals_of f [] = nnil
normals_of f (u ∷ us) = ncons (f u) (normals_of f us)

unfoldable pub normal_by : NormalView → ℕ → List ℕ → (ℕ → Normal (List ℕ) ℕ) → Normal (List ℕ) ℕ
normal_by Literal x run rec = lit true x
normal_by (Connective b) x run rec = nmany (is_and b) (normals_of rec run)
normal_by (Forall body) x run rec = nall true (drop 1 run) (rec body.0)

unfoldable pub normal_at : Pool → ℕ → Normal (List ℕ) ℕ
normal_at q x =
    by_place (λ y rec. normal_by (normal_view q.tags q.values y) y (operands_of q.tags q.values y) rec) (lit true 0) x

-- the taken-out form of the term in normal form at x
unfoldable pub taken_out_form : Pool → ℕ → Placed
taken_out_form q x = intern (prenex (normal_at q x)) q

-- the form at the place x
abbrev pub form_at : List ℕ → List ℕ → ℕ → Normal (List ℕ) ℕ
form_at tags values x = normal_at (record { tags = tags; values = values }) x
