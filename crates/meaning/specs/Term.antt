-- Terms as trees. A tree states all that the cells of its place state: the sort, first, and then the parts.
-- 01, "Pool": the terms and their tags. SMT-LIB 2.6, section 3.6 (Terms and Formulas): a term is a constant, a variable, an application,
-- a quantified term or a let. The tags tell constants, binders and operators apart, as 01 numbers them.
-- Rests on Sort.
use Rattle.std.specs.Prelude.{Bool, ◌≡◌, refl, ℕ}
use Rattle.std.proofs.Math.Bool.{Bool-discrete}
use mathlib.Core.List.{List, [], ◌∷◌, nil≢cons, cons≢nil, head-eq_of_cons-eq, tail-eq_of_cons-eq}
use Rattle.std.proofs.Common.{ap}
use Rattle.std.proofs.Math.Decide.{ℕ_discrete}
use Rattle.meaning.specs.Sort.{Sort, Sort-discrete, no_sort}

-- "a variable is name with sort"
pub record Var : Type 0 where
  pub name : ℕ
  pub sort : Sort

abbrev pub Vars : Type 0
Vars = List Var

mutual
  pub data Term : Type 0 where
    const : ℕ → Sort → ℕ → Term  -- 16 integer (number); 17 real, 18 string, 19 regular language (serial): the tag, then those
    bit_vector : Sort → ℕ → ℕ → Term  -- 20 bit vector (width, serial)
    var : Var → Term  -- 21 variable (name)
    app : Sort → Term → Terms → Term  -- 22 application (function, arguments)
    quant : Bool → Sort → Vars → Term → Term  -- 23 forall (true), 24 exists (false): the variables, the body
    bind : ℕ → Sort → Vars → Term → Term  -- 25 choice, 26 lambda: the tag, the sort, the variables, the body
    letin : Sort → Lets → Term → Term  -- 27 let: the names with their values, the body
    op : ℕ → Sort → Terms → Term  -- 32 to 166 an operator (operands): the tag, the sort, the operands
    no_term : Term  -- what stands at a place that is no term's
    deriving Discrete as Term-discrete-from

  pub data Terms : Type 0 where
    tnil : Terms
    tcons : Term → Terms → Terms

  pub data Lets : Type 0 where
    lnil : Lets
    lcons : ℕ → Term → Lets → Lets

-- "Terms, whose first cell is their sort": the sort that a term states
unfoldable pub stated : Term → Sort
stated (const k s c) = s
stated (bit_vector s w c) = s
stated (var v) = v.sort
stated (app s f ts) = s
stated (quant b s vs t) = s
stated (bind k s vs t) = s
stated (letin s ls t) = s
stated (op k s ts) = s
stated no_term = no_sort

-- ---- equality, decided
var-dec : (u v : Var) → Dec (u.name ≡ v.name) → Dec (u.sort ≡ v.sort) → Dec (u ≡ v)
var-dec u v (yes p) (yes q) = yes (λ i. record { name = p i; sort = q i })
var-dec u v (yes p) (no q) = no (λ e. q (ap (λ (w : Var). w.sort) e))
var-dec u v (no p) d = no (λ e. p (ap (λ (w : Var). w.name) e))

unfoldable pub Var-discrete : Discrete Var
unfolding var-dec
Var-discrete u v = var-dec u v (ℕ_discrete u.name v.name) (Sort-discrete u.sort v.sort)

cons-dec : {x y : Var} {xs ys : Vars} → Dec (x ≡ y) → Dec (xs ≡ ys) → Dec (◌≡◌ {A = Vars} (x ∷ xs) (y ∷ ys))
cons-dec (yes p) (yes q) = yes (λ i. p i ∷ q i)
cons-dec (yes p) (no q) = no (λ e. q (tail-eq_of_cons-eq e))
cons-dec (no p) d = no (λ e. p (head-eq_of_cons-eq e))

unfoldable pub Vars-discrete : Discrete Vars
unfolding cons-dec
Vars-discrete [] [] = yes refl
Vars-discrete [] (y ∷ ys) = no nil≢cons
Vars-discrete (x ∷ xs) [] = no cons≢nil
Vars-discrete (x ∷ xs) (y ∷ ys) = cons-dec (Var-discrete x y) (Vars-discrete xs ys)

unfoldable pub Term-discrete : Discrete Term
Term-discrete = Term-discrete-from ℕ_discrete Sort-discrete Var-discrete Bool-discrete Vars-discrete
