-- Normal form, taken-out form, clauses and totals do not look at leaves and binding lists: they are those of the mapped form.
-- Assumes nothing.
use mathlib.Core.Path.{◌≡◌, refl, ap, ap₂, subst, ◌∙◌}
use mathlib.Core.Bool.{Bool, true, false, not, ◌||◌}
use mathlib.Core.List.{List, [], ◌∷◌, ◌++◌, map, map-append, Memᴰ}
use Rattle.formulas.specs.Formula.{Form, Forms, opaque, neg, many, imp, ite, iff, all, fnil, fcons}
use Rattle.formulas.specs.Normal.{Normal, Normals, lit, nmany, nall, nnil, ncons, flip, pair, nnf, nnfs, prenex, prenexes, taken, takens}
use Rattle.formulas.specs.Clauses.{Clause, product, cnf, cnf_and, cnf_or, is_empty_or, empty_or, empty_ors}
use Rattle.formulas.specs.Totals.{combine, totals, totals_of}
use Rattle.formulas.specs.Mapped.{map_f, map_fs, map_n, map_ns}

-- ---- clauses of other literals
module _ {X Y : Type 0} (f : X → Y) where
  map-joined : (c : List X) (ds : List (List X)) → map (map f) (map (◌++◌ c) ds) ≡ map (◌++◌ (map f c)) (map (map f) ds)
  map-joined c [] = refl
  map-joined c (d ∷ ds) = ap₂ ◌∷◌ (map-append f c d) (map-joined c ds)

  pub product-map : (cs ds : List (List X)) → map (map f) (product cs ds) ≡ product (map (map f) cs) (map (map f) ds)
  product-map [] ds = refl
  product-map (c ∷ cs) ds =
      map-append (map f) (map (◌++◌ c) ds) (product cs ds) ∙ ap₂ ◌++◌ (map-joined c ds) (product-map cs ds)

module _ {B C K L : Type 0} (list : B → C) (leaf : K → L) where
  abbrev on_n : Normal B K → Normal C L
  on_n = map_n list leaf

  mutual
    pub nnf-map : (f : Form B K) (p : Bool) → on_n (nnf f p) ≡ nnf (map_f list leaf f) p
    nnf-map (opaque t) p = refl
    nnf-map (neg f) p = nnf-map f (not p)
    nnf-map (many b fs) p = ap (nmany (flip b p)) (nnfs-map fs p)
    nnf-map (imp f g) p = λ i. pair (not p) (nnf-map f (not p) i) (nnf-map g p i)
    nnf-map (ite f g h) p =
        λ i. pair p (pair (not p) (nnf-map f (not p) i) (nnf-map g p i)) (pair (not p) (nnf-map f p i) (nnf-map h p i))
    nnf-map (iff f g) p =
        λ i. pair p (pair (not p) (nnf-map f (not p) i) (nnf-map g p i)) (pair (not p) (nnf-map g (not p) i) (nnf-map f p i))
    nnf-map (all b vs f) p = ap (nall (flip b p) (list vs)) (nnf-map f p)

    nnfs-map : (fs : Forms B K) (p : Bool) → map_ns list leaf (nnfs fs p) ≡ nnfs (map_fs list leaf fs) p
    nnfs-map fnil p = refl
    nnfs-map (fcons f fs) p = ap₂ ncons (nnf-map f p) (nnfs-map fs p)

  mutual
    pub prenex-map : (n : Normal B K) → on_n (prenex n) ≡ prenex (on_n n)
    prenex-map (lit b t) = refl
    prenex-map (nmany b ns) = ap (nmany b) (prenexes-map ns)
    prenex-map (nall true vs n) = prenex-map n
    prenex-map (nall false vs n) = refl

    prenexes-map : (ns : Normals B K) → map_ns list leaf (prenexes ns) ≡ prenexes (map_ns list leaf ns)
    prenexes-map nnil = refl
    prenexes-map (ncons n ns) = ap₂ ncons (prenex-map n) (prenexes-map ns)

  module _ {A : Type 0} (variables : C → List A) where
    mutual
      pub taken-map : (n : Normal B K) → taken variables (on_n n) ≡ taken (λ (b : B). variables (list b)) n
      taken-map (lit b t) = refl
      taken-map (nmany b ns) = takens-map ns
      taken-map (nall true vs n) = ap (◌++◌ (variables (list vs))) (taken-map n)
      taken-map (nall false vs n) = refl

      takens-map : (ns : Normals B K) → takens variables (map_ns list leaf ns) ≡ takens (λ (b : B). variables (list b)) ns
      takens-map nnil = refl
      takens-map (ncons n ns) = ap₂ ◌++◌ (taken-map n) (takens-map ns)

  -- ---- clauses
  mutual
    pub cnf-map : (n : Normal B K) → map (map on_n) (cnf n) ≡ cnf (on_n n)
    cnf-map (lit b t) = refl
    cnf-map (nmany true ns) = cnf_and-map ns
    cnf-map (nmany false ns) = cnf_or-map ns
    cnf-map (nall b vs n) = refl

    cnf_and-map : (ns : Normals B K) → map (map on_n) (cnf_and ns) ≡ cnf_and (map_ns list leaf ns)
    cnf_and-map nnil = refl
    cnf_and-map (ncons n ns) = map-append (map on_n) (cnf n) (cnf_and ns) ∙ ap₂ ◌++◌ (cnf-map n) (cnf_and-map ns)

    cnf_or-map : (ns : Normals B K) → map (map on_n) (cnf_or ns) ≡ cnf_or (map_ns list leaf ns)
    cnf_or-map nnil = refl
    cnf_or-map (ncons n ns) = product-map on_n (cnf n) (cnf_or ns) ∙ ap₂ product (cnf-map n) (cnf_or-map ns)

  mem-map : {X Y : Type 0} (f : X → Y) (x : X) (xs : List X) → Memᴰ x xs → Memᴰ (f x) (map f xs)
  mem-map f x (y ∷ xs) (Memᴰ.head q) = Memᴰ.head (ap f q)
  mem-map f x (y ∷ xs) (Memᴰ.tail m) = Memᴰ.tail (mem-map f x xs m)
  mem-map {X = X} {Y = Y} f x [] x'' = elim x'' [ ]

  -- a clause of the taken-out form
  pub clause-map : (c : Clause B K) (n : Normal B K) → Memᴰ c (cnf (prenex n)) → Memᴰ (map on_n c) (cnf (prenex (on_n n)))
  clause-map c n m =
      subst (Memᴰ (map on_n c)) (cnf-map (prenex n) ∙ ap cnf (prenex-map n)) (mem-map (map on_n) c (cnf (prenex n)) m)

  -- ---- an empty `or`, and totals
  is_empty_or-map : (b : Bool) (ns : Normals B K) → is_empty_or b (map_ns list leaf ns) ≡ is_empty_or b ns
  is_empty_or-map true ns = refl
  is_empty_or-map false nnil = refl
  is_empty_or-map false (ncons n ns) = refl

  mutual
    pub empty_or-map : (n : Normal B K) → empty_or (on_n n) ≡ empty_or n
    empty_or-map (lit b t) = refl
    empty_or-map (nmany b ns) = ap₂ ◌||◌ (is_empty_or-map b ns) (empty_ors-map ns)
    empty_or-map (nall b vs n) = refl

    empty_ors-map : (ns : Normals B K) → empty_ors (map_ns list leaf ns) ≡ empty_ors ns
    empty_ors-map nnil = refl
    empty_ors-map (ncons n ns) = ap₂ ◌||◌ (empty_or-map n) (empty_ors-map ns)

  mutual
    pub totals-map : (n : Normal B K) → totals (on_n n) ≡ totals n
    totals-map (lit b t) = refl
    totals-map (nmany b ns) = totals_of-map ns b
    totals-map (nall b vs n) = refl

    totals_of-map : (ns : Normals B K) (b : Bool) → totals_of b (map_ns list leaf ns) ≡ totals_of b ns
    totals_of-map nnil b = refl
    totals_of-map (ncons n ns) b = ap₂ (combine b) (totals-map n) (totals_of-map ns b)
