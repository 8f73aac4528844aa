-- The six rules as the Alethe document lists them: for each the form of a conclusion with its side conditions, on terms as trees.
-- `QntJoin t`: the term t is a conclusion of `qnt_join`; a constructor is a form that the document gives, its last line the conclusion.
-- A variable is its name with its sort. Q is forall (true) or exists (false), which state Bool. s, s', s'' are the sorts that operators
-- state, whatever they are. Operators by their tags: `not` 34, `and` 36, `or` 37, `=` 39, `ite` 41.
-- Each rule says where document 01 and the Rust accept more or less than the Alethe document; docs/DIFFERENCES.md has the list.
-- Rests on formulas' Formula, Normal and Clauses, and on meaning's Sort, Term, Skeleton and FreeTree.
use Rattle.std.specs.Prelude.{◌≤◌, ◌≡◌, Bool, true, false, not, cond, length}
use mathlib.Core.List.{List, [], ◌∷◌, ◌++◌, Memᴰ}
use Rattle.meaning.specs.Sort.{Sort, bool}
use Rattle.meaning.specs.Term.{Var, Vars, Term, Terms, quant, op, tnil, tcons}
use Rattle.meaning.specs.FreeTree.{same, has, free}
use Rattle.formulas.specs.Normal.{Normal, nnf, prenex, taken}
use Rattle.formulas.specs.Clauses.{Clause, cnf, empty_or, literal_total}
use Rattle.formulas.specs.Formula.{connective_tag}
use Rattle.meaning.specs.Skeleton.{skeleton, build, builds, normals}

-- ---- notation
-- `(= l r)`
abbrev pub equal : Sort → Term → Term → Term
equal s l r = op 39 s (tcons l (tcons r tnil))

-- `(Q xs t)`
abbrev pub binder : Bool → Vars → Term → Term
binder Q xs t = quant Q bool xs t

-- `(ite p t u)`
abbrev pub ite_term : Sort → Term → Term → Term → Term
ite_term s p t u = op 41 s (tcons p (tcons t (tcons u tnil)))

-- `(or (not l) r)`
abbrev pub implies : Sort → Sort → Term → Term → Term
implies s s' l r = op 37 s (tcons (op 34 s' (tcons l tnil)) (tcons r tnil))

-- every variable of zs is one of xs
abbrev pub Among : Vars → Vars → Type 0
Among zs xs = (v : Var) → has zs v ≡ true → has xs v ≡ true

-- every variable of xs that is free in t is one of zs
abbrev pub FreeAmong : Term → Vars → Vars → Type 0
FreeAmong t xs zs = (v : Var) → has xs v ≡ true → free t v ≡ true → has zs v ≡ true

-- no variable of xs is free in t
abbrev pub NotFree : Vars → Term → Type 0
NotFree xs t = (v : Var) → has xs v ≡ true → free t v ≡ false

-- ---- rule 1, qnt_join: `(= (Q xs (Q ys t)) (Q zs t))`, zs the two lists joined
-- The document wants the variables of zs pairwise distinct, which drops every repeat, as the Rust does. 01 drops a variable that equals the
-- one before it and keeps a later repeat.
unfoldable pub after : Var → Vars → Vars
after u [] = []
after u (v ∷ vs) = cond (same u v) (after v vs) (v ∷ after v vs)

unfoldable pub joined_once : Vars → Vars
joined_once [] = []
joined_once (v ∷ vs) = v ∷ after v vs

pub data QntJoin : Term → Type 0 where
  joins : (s : Sort) (Q : Bool) (xs ys zs : Vars) (t : Term) → zs ≡ joined_once (xs ++ ys)
      → QntJoin (equal s (binder Q xs (binder Q ys t)) (binder Q zs t))

-- ---- rule 2, qnt_rm_unused: `(= (Q xs t) (Q zs t))`, zs among xs, and every x that is free in t among zs; or
-- `(= (Q xs t) t)`, no x free in t
-- The document has zs in the order of xs, each variable once. 01 and the Rust: any order, any repeats.
pub data QntRmUnused : Term → Type 0 where
  removes : (s : Sort) (Q : Bool) (xs zs : Vars) (t : Term) → Among zs xs → FreeAmong t xs zs
      → QntRmUnused (equal s (binder Q xs t) (binder Q zs t))
  removes-all : (s : Sort) (Q : Bool) (xs : Vars) (t : Term) → NotFree xs t
      → QntRmUnused (equal s (binder Q xs t) t)

-- ---- rule 3, qnt_cnf: `(or (not (forall xs t)) (forall zs c))`, c a clause of t
-- t in negation normal form, its foralls taken out
abbrev pub clausal : Term → Normal Vars Term
clausal t = prenex (nnf (skeleton t) true)

abbrev pub clauses_of : Term → List (Clause Vars Term)
clauses_of t = cnf (clausal t)

-- "A one-literal clause is the literal, a longer one an `or`."
abbrev pub IsClause : Term → Clause Vars Term → Type 0
IsClause c [] = (s : Sort) × (c ≡ op 37 s tnil)
IsClause c (l ∷ []) = c ≡ build l
IsClause c (l ∷ (m ∷ ls)) = (s : Sort) × (c ≡ op 37 s (builds (normals (l ∷ (m ∷ ls)))))

-- xs, and the variables of the foralls that are taken out of t
abbrev pub with_taken : Vars → Term → Vars
with_taken xs t = xs ++ taken (λ (vs : Vars). vs) (nnf (skeleton t) true)

-- zs is among them, and every one of them that is free in c is among zs. 01 and the Rust: any order, any repeats.
pub data QntCnf : Term → Type 0 where
  clausifies : (s s' : Sort) (xs zs : Vars) (t c : Term) (d : Clause Vars Term) → Memᴰ d (clauses_of t) → IsClause c d
      → Among zs (with_taken xs t) → FreeAmong c (with_taken xs t) zs
      → QntCnf (implies s s' (binder true xs t) (binder true zs c))

-- The document sets no limit. 01: "13 an empty `or` reached", "32 over 2,048 clauses or 8,192 literals"; t is within these
pub record Bounded (t : Term) : Type 0 where
  pub no-empty-or : empty_or (clausal t) ≡ false
  pub clauses : length (clauses_of t) ≤ 2048
  pub literals : literal_total (clauses_of t) ≤ 8192

-- ---- rule 4, miniscope_distribute: `(= (forall xs (and t ..)) (and (forall xs t) ..))`, or with exists and `or`
abbrev pub each : Bool → Vars → Terms → Terms
each Q xs tnil = tnil
each Q xs (tcons t ts) = tcons (binder Q xs t) (each Q xs ts)

pub data MiniscopeDistribute : Term → Type 0 where
  distributes : (s s' s'' : Sort) (Q : Bool) (xs : Vars) (ts : Terms)
      → MiniscopeDistribute (equal s (binder Q xs (op (connective_tag Q) s' ts)) (op (connective_tag Q) s'' (each Q xs ts)))

-- ---- rule 5, miniscope_split: `(= (forall xs (or t ..)) (or u ..))`, or with exists and `and`; u is t, or `(forall ys t)` with ys of xs
-- No x is free on the right. 01: "each outer pair used at most once, also where the outer list repeats it".
unfoldable pub without : Var → Vars → Vars
without v [] = []
without v (u ∷ us) = cond (same u v) (without v us) (u ∷ without v us)

-- ys are used, of the variables rest that no operand has used yet; left is what is left then
pub data Uses : Vars → Vars → Vars → Type 0 where
  nothing : (rest : Vars) → Uses [] rest rest
  next : (y : Var) (ys rest left : Vars) → has rest y ≡ true → Uses ys (without y rest) left
      → Uses (y ∷ ys) rest left

-- the right operands, for the left ones
pub data Split (Q : Bool) : Vars → Terms → Terms → Type 0 where
  ends : (rest : Vars) → Split Q rest tnil tnil
  as-it-is : (rest : Vars) (t : Term) (ts us : Terms) → Split Q rest ts us
      → Split Q rest (tcons t ts) (tcons t us)
  under : (ys rest left : Vars) (t : Term) (ts us : Terms) → Uses ys rest left → Split Q left ts us
      → Split Q rest (tcons t ts) (tcons (binder Q ys t) us)

pub data MiniscopeSplit : Term → Type 0 where
  splits : (s s' s'' : Sort) (Q : Bool) (xs : Vars) (ts us : Terms) → Split Q xs ts us → NotFree xs (op (connective_tag (not Q)) s'' us)
      → MiniscopeSplit (equal s (binder Q xs (op (connective_tag (not Q)) s' ts)) (op (connective_tag (not Q)) s'' us))

-- ---- rule 6, miniscope_ite: `(= (forall xs (ite p t u)) (ite p (forall xs t) (forall xs u)))`, no x free in p
pub data MiniscopeIte : Term → Type 0 where
  splits-ite : (s s' s'' : Sort) (xs : Vars) (p t u : Term) → NotFree xs p
      → MiniscopeIte (equal s (binder true xs (ite_term s' p t u)) (ite_term s'' p (binder true xs t) (binder true xs u)))
