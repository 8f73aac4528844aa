-- Where a let's values make a difference to the free variables.
--     free-without-let     on a term that holds no let, none
--     still-free           on any term the variables free without the let values are among the free ones
-- Assumes nothing.
use mathlib.Core.Path.{◌≡◌, refl, ap, ap₂}
use mathlib.Core.Bool.{Bool, true, false, not, ◌&&◌, ◌||◌, true≢false, false≢true}
use Rattle.meaning.specs.Term.{Var, Term, Terms, const, bit_vector, var, app, quant, bind, letin, op, no_term, tnil, tcons}
use Rattle.meaning.specs.FreeTree.{has, let_vars, free, frees, free_values}
use Rattle.meaning.specs.Lets.{holds_let, some_holds_let}
use Rattle.meaning.specs.FreeWithoutLetValues.{free_without_let_values, frees_without_let_values}

neither : (x y : Bool) → (x || y) ≡ false → (x ≡ false) × (y ≡ false)
neither true y e = absurd (true≢false e)
neither false y e = (refl, e)

mutual
  unfolding free free_without_let_values holds_let

  pub free-without-let : (t : Term) (v : Var) → holds_let t ≡ false → free t v ≡ free_without_let_values t v
  free-without-let (const k s c) v e = refl
  free-without-let (bit_vector s w c) v e = refl
  free-without-let (var u) v e = refl
  free-without-let (app s f ts) v e =
      let n = neither (holds_let f) (some_holds_let ts) e in
      ap₂ ◌||◌ (free-without-let f v n.0) (frees-without-let ts v n.1)
  free-without-let (quant b s vs t) v e = ap (λ (z : Bool). not (has vs v) && z) (free-without-let t v e)
  free-without-let (bind k s vs t) v e = ap (λ (z : Bool). not (has vs v) && z) (free-without-let t v e)
  free-without-let (letin s ls t) v e = absurd (true≢false e)
  free-without-let (op k s ts) v e = frees-without-let ts v e
  free-without-let no_term v e = refl

  pub frees-without-let : (ts : Terms) (v : Var) → some_holds_let ts ≡ false → frees ts v ≡ frees_without_let_values ts v
  frees-without-let tnil v e = refl
  frees-without-let (tcons t ts) v e =
      let n = neither (holds_let t) (some_holds_let ts) e in
      ap₂ ◌||◌ (free-without-let t v n.0) (frees-without-let ts v n.1)

-- ---- `or` and `and` of more
either : (a b x y : Bool) → (a ≡ true → x ≡ true) → (b ≡ true → y ≡ true) → (a || b) ≡ true → (x || y) ≡ true
either true b true y f g e = refl
either true b false y f g e = absurd (false≢true (f refl))
either false b true y f g e = refl
either false b false y f g e = g e

under : (c a x : Bool) → (a ≡ true → x ≡ true) → (c && a) ≡ true → (c && x) ≡ true
under true a x f e = f e
under false a x f e = e

mutual
  unfolding free free_without_let_values

  pub still-free : (t : Term) (v : Var) → free_without_let_values t v ≡ true → free t v ≡ true
  still-free (const k s c) v e = e
  still-free (bit_vector s w c) v e = e
  still-free (var u) v e = e
  still-free (app s f ts) v e = either _ _ (free f v) (frees ts v) (λ q. still-free f v q) (λ q. still-frees ts v q) e
  still-free (quant b s vs t) v e = under (not (has vs v)) _ (free t v) (λ q. still-free t v q) e
  still-free (bind k s vs t) v e = under (not (has vs v)) _ (free t v) (λ q. still-free t v q) e
  still-free (letin s ls t) v e =
      either false _ (free_values ls v) _ (λ n. absurd (false≢true n)) (under (not (has (let_vars ls) v)) _ (free t v) (λ q. still-free t v q)) e
  still-free (op k s ts) v e = still-frees ts v e
  still-free no_term v e = e

  pub still-frees : (ts : Terms) (v : Var) → frees_without_let_values ts v ≡ true → frees ts v ≡ true
  still-frees tnil v e = e
  still-frees (tcons t ts) v e = either _ _ (free t v) (frees ts v) (λ q. still-free t v q) (λ q. still-frees ts v q) e
