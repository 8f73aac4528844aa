-- A form that is put into a pool stands there as the term that it builds.
--     intern-tree          of a form over places
--     normal-form-tree     of a term's normal form
-- Assumes nothing.
use Prim.Native.Nat.{ℕ, suc, ◌≤◌, ◌<◌, ◌%◌}
use mathlib.Core.Path.{◌≡◌, refl, sym, ap, ap₂, subst, ◌∙◌}
use mathlib.Core.Bool.{Bool, true, false, ◌&&◌}
use mathlib.Core.List.{List, [], ◌∷◌}
use lib.ListN.{length, get_or}
use lib.Dec.{eqb, leb}
use native.Mathlib.Omega.{arith}
use borrow.Author.Tests.{lt-ltb, le-leb, eq-eqb}
use Rattle.headers.specs.WellFormed.{shape_of, count_fits, kind_at, pair_kind, is_sort_tag, is_term_tag, value_fits}
use Rattle.headers.specs.declared.well_formed.Shape.{Shape}
use Rattle.headers.specs.declared.well_formed.Shape.TheVariants.{Binder, Operator}
use Rattle.headers.specs.declared.well_formed.CellKind.TheVariants.{OfSort, OfTerm}
use Rattle.meaning.specs.Sort.{Sort, bool}
use Rattle.meaning.specs.Term.{Vars, Term, Terms, quant, op, tcons}
use Rattle.meaning.specs.Tree.{sort_tree, terms_of, term_from, tree}
use Rattle.meaning.proofs.trees.Header.{Each}
use Rattle.meaning.proofs.trees.Tags.{shape-op}
use Rattle.meaning.proofs.trees.Parts.{not_first}
use Rattle.meaning.proofs.trees.Terms.{term-op}
use Rattle.formulas.specs.Formula.{form, connective_tag, quantifier_tag}
use Rattle.formulas.specs.Normal.{Normal, Normals, lit, nmany, nall, nnil, ncons, nnf}
use Rattle.formulas.specs.Built.{Pool, Placed, PlacedAll, count, put, intern, interns, normal_form}
use Rattle.formulas.specs.Mapped.{map_n, map_ns}
use Rattle.meaning.specs.Skeleton.{skeleton, build, builds}
use Rattle.meaning.proofs.places.Mapped.{nnf-map}
use Rattle.meaning.proofs.places.Operands.{IsTerm, AllTerms}
use Rattle.meaning.proofs.places.FormTree.{vars_at, first-bool, bool-tree, form-tree}
use Rattle.meaning.proofs.places.FormFits.{Pairs, FitsN, FitsNs, each_more, nnf-fits, form-fits}
use Rattle.meaning.proofs.places.SameTree.{vars-same, value-kept}
use Rattle.building.proofs.Interning.{Good, Grows, grows-refl, grows-trans}
use Rattle.normal_form.proofs.TreeGrows.{Sound, cells_same, sort-grows, tree-grows, put-term}

-- the term at a place, and a form over places as one over trees
abbrev pub term_in : Pool → ℕ → Term
term_in q = tree q.tags q.values

abbrev pub on_pool : Pool → Normal (List ℕ) ℕ → Normal Vars Term
on_pool q = map_n (vars_at q.tags q.values) (term_in q)

abbrev pub on_pools : Pool → Normals (List ℕ) ℕ → Normals Vars Term
on_pools q = map_ns (vars_at q.tags q.values) (term_in q)

-- ---- a pool that goes on has the same terms and pairs, with the same trees
module _ (q q' : Pool) (s : Sound q) (good' : Good q') (g : Grows q q') where
  term-still : (x : ℕ) → IsTerm q.tags (count q) x → IsTerm q'.tags (count q') x
  term-still x (h, k) = (omega (arith, g.longer), rw (g.tags-same x h) k)

  each-still : (shape : Shape) (j : ℕ) (cs : List ℕ) → Each q.tags (count q) shape j cs → Each q'.tags (count q) shape j cs
  each-still shape j [] f = tt
  each-still shape j (c ∷ cs) f = (
    value-kept (count q) q.tags q.values q'.tags q'.values (cells_same q q' s.good good' g) (count q) (omega arith) (kind_at shape j) c ∙ f.0,
    each-still shape (suc j) cs f.1,
  )

  pairs-still : (vs : List ℕ) → Pairs q.tags (count q) vs → Pairs q'.tags (count q') vs
  pairs-still vs (e, f) = (e, each_more q'.tags (count q) (count q') g.longer Binder 2 vs (each-still Binder 2 vs f))

  mutual
    fits-still : (f : Normal (List ℕ) ℕ) → FitsN q.tags (count q) f → FitsN q'.tags (count q') f
    fits-still (lit b x) o = term-still x o
    fits-still (nmany b ns) o = fits-all-still ns o
    fits-still (nall b vs n) o = (pairs-still vs o.0, fits-still n o.1)

    fits-all-still : (fs : Normals (List ℕ) ℕ) → FitsNs q.tags (count q) fs → FitsNs q'.tags (count q') fs
    fits-all-still nnil o = tt
    fits-all-still (ncons n ns) o = (fits-still n o.0, fits-all-still ns o.1)

  vars-still : (vs : List ℕ) → Pairs q.tags (count q) vs → vars_at q'.tags q'.values vs ≡ vars_at q.tags q.values vs
  vars-still vs (e, f) =
      vars-same q.tags (count q) (sort_tree q.tags q.values) (sort_tree q'.tags q'.values) (sort-grows q q' s good' g) 2 vs (omega arith) refl f

  mutual
    trees-still : (f : Normal (List ℕ) ℕ) → FitsN q.tags (count q) f → on_pool q' f ≡ on_pool q f
    trees-still (lit b x) o = ap (lit b) (tree-grows q q' s good' g x o.0 o.1)
    trees-still (nmany b ns) o = ap (nmany b) (all-trees-still ns o)
    trees-still (nall b vs n) o = ap₂ (nall b) (vars-still vs o.0) (trees-still n o.1)

    all-trees-still : (fs : Normals (List ℕ) ℕ) → FitsNs q.tags (count q) fs → on_pools q' fs ≡ on_pools q fs
    all-trees-still nnil o = refl
    all-trees-still (ncons n ns) o = ap₂ ncons (trees-still n o.0) (all-trees-still ns o.1)

-- ---- what is interned: the pool goes on from q, with the term x at its place
pub record Interned (q : Pool) (o : Placed) (x : Term) : Type 0 where
  pub sound : Sound o.pool
  pub grows : Grows q o.pool
  pub term : IsTerm o.pool.tags (count o.pool) o.place
  pub is : term_in o.pool o.place ≡ x

pub record InternedAll (q : Pool) (o : PlacedAll) (xs : Terms) : Type 0 where
  pub sound : Sound o.pool
  pub grows : Grows q o.pool
  pub terms : AllTerms o.pool.tags (count o.pool) o.places
  pub are : terms_of (term_in o.pool) o.places ≡ xs

after : (q q₁ : Pool) (o : Placed) (x : Term) → Grows q q₁ → Interned q₁ o x → Interned q o x
after q q₁ o x g i = record { sound = i.sound; grows = grows-trans q q₁ o.pool g i.grows; term = i.term; is = i.is }

-- ---- one more term, which states the sort Bool
module _ (q : Pool) (s : Sound q) where
  first-tag : get_or q.tags 0 0 ≡ 1
  first-tag = first-bool q.tags q.values (count q) s.formed s.some

  bool_is : sort_tree q.tags q.values 0 ≡ bool
  bool_is = bool-tree q.tags q.values (count q) (omega (arith, s.good.size)) s.formed 0 s.some first-tag

  bool-fits : value_fits q.tags (count q) OfSort 0 ≡ true
  unfolding value_fits is_sort_tag
  bool-fits = rw (lt-ltb 0 (count q) s.some, first-tag)

  term_fits : (x : ℕ) → IsTerm q.tags (count q) x → value_fits q.tags (count q) OfTerm x ≡ true
  unfolding value_fits
  term_fits x (h, k) = rw (lt-ltb x (count q) h) k

  terms-fit : (j : ℕ) (us : List ℕ) → 1 ≤ j → AllTerms q.tags (count q) us → Each q.tags (count q) Operator j us
  unfolding kind_at
  terms-fit j [] h a = tt
  terms-fit j (u ∷ us) h a = (rw (not_first OfSort OfTerm j h) (term_fits u a.0), terms-fit (suc j) us (omega arith) a.1)

  op-interned : (k : ℕ) → 32 ≤ k → k < 167 → is_term_tag k ≡ true → (us : List ℕ) → AllTerms q.tags (count q) us
      → Interned q (put q k (0 ∷ us)) (op k bool (terms_of (term_in q) us))
  unfolding count_fits kind_at
  op-interned k h l m us a =
      let p = put-term q k (0 ∷ us) s (record {
        count-fits = rw (shape-op k h l) (le-leb 1 (length (0 ∷ us)) (omega arith));
        each-cell = subst (λ (x : Shape). Each q.tags (count q) x 0 (0 ∷ us)) (sym (shape-op k h l)) (bool-fits, terms-fit 1 us (omega arith) a);
      }) m in
      record {
        sound = p.sound;
        grows = p.grows;
        term = p.term;
        is = p.tree_is ∙ (term-op (sort_tree q.tags q.values) (term_in q) k (0 ∷ us) h l ∙ ap (λ (x : Sort). op k x (terms_of (term_in q) us)) bool_is);
      }

  binder-count : (us : List ℕ) → length us % 2 ≡ 0 → (u : ℕ) → (leb 2 (length (0 ∷ (u ∷ us))) && eqb (length (0 ∷ (u ∷ us)) % 2) 0) ≡ true
  binder-count us e u = rw (le-leb 2 (length (0 ∷ (u ∷ us))) (omega arith)) (eq-eqb (length (0 ∷ (u ∷ us)) % 2) 0 (omega arith))

  quant-interned : (b : Bool) (u : ℕ) (vs : List ℕ) → IsTerm q.tags (count q) u → Pairs q.tags (count q) vs
      → Interned q (put q (quantifier_tag b) (0 ∷ (u ∷ vs))) (quant b bool (vars_at q.tags q.values vs) (term_in q u))
  unfolding shape_of count_fits kind_at pair_kind is_term_tag term_from
  quant-interned true u vs t (e, f) =
      let p = put-term q 23 (0 ∷ (u ∷ vs)) s (record { count-fits = binder-count vs e u; each-cell = (bool-fits, (term_fits u t, f)) }) refl in
      record {
        sound = p.sound;
        grows = p.grows;
        term = p.term;
        is = p.tree_is ∙ ap (λ (x : Sort). quant true x (vars_at q.tags q.values vs) (term_in q u)) bool_is;
      }
  quant-interned false u vs t (e, f) =
      let p = put-term q 24 (0 ∷ (u ∷ vs)) s (record { count-fits = binder-count vs e u; each-cell = (bool-fits, (term_fits u t, f)) }) refl in
      record {
        sound = p.sound;
        grows = p.grows;
        term = p.term;
        is = p.tree_is ∙ ap (λ (x : Sort). quant false x (vars_at q.tags q.values vs) (term_in q u)) bool_is;
      }

  many-interned : (b : Bool) (us : List ℕ) → AllTerms q.tags (count q) us → Interned q (put q (connective_tag b) (0 ∷ us)) (op (connective_tag b) bool (terms_of (term_in q) us))
  unfolding is_term_tag
  many-interned true us a = op-interned 36 (omega arith) (omega arith) refl us a
  many-interned false us a = op-interned 37 (omega arith) (omega arith) refl us a

-- ---- the whole form
mutual
  unfolding intern interns terms_of is_term_tag

  pub intern-tree : (f : Normal (List ℕ) ℕ) (q : Pool) → Sound q → FitsN q.tags (count q) f → Interned q (intern f q) (build (on_pool q f))
  intern-tree (lit true x) q s o = record { sound = s; grows = grows-refl q; term = o; is = refl }
  intern-tree (lit false x) q s o = op-interned q s 34 (omega arith) (omega arith) refl (x ∷ []) (o, tt)
  intern-tree (nmany b ns) q s o =
      let r = interns ns q in
      let h = interns-tree ns q s o in
      after q r.pool _ _ h.grows (rw h.are at (many-interned r.pool h.sound b r.places h.terms))
  intern-tree (nall b vs n) q s o =
      let r = intern n q in
      let h = intern-tree n q s o.1 in
      after q r.pool _ _ h.grows
      (rw (h.is, vars-still q r.pool s h.sound.good h.grows vs o.0) at
      (quant-interned r.pool h.sound b r.place vs h.term (pairs-still q r.pool s h.sound.good h.grows vs o.0)))

  interns-tree : (fs : Normals (List ℕ) ℕ) (q : Pool) → Sound q → FitsNs q.tags (count q) fs → InternedAll q (interns fs q) (builds (on_pools q fs))
  interns-tree nnil q s o = record { sound = s; grows = grows-refl q; terms = tt; are = refl }
  interns-tree (ncons n ns) q s o =
      let r = intern n q in
      let h = intern-tree n q s o.0 in
      let k = interns-tree ns r.pool h.sound (fits-all-still q r.pool s h.sound.good h.grows ns o.1) in
      let t = interns ns r.pool in
      record {
        sound = k.sound;
        grows = grows-trans q r.pool t.pool h.grows k.grows;
        terms = (term-still r.pool t.pool h.sound k.sound.good k.grows r.place h.term, k.terms);
        are =
            ap₂ tcons (tree-grows r.pool t.pool h.sound k.sound.good k.grows r.place h.term.0 h.term.1 ∙ h.is)
            (k.are ∙ ap builds (all-trees-still q r.pool s h.sound.good h.grows ns o.1));
      }

-- ---- the normal form of the term at t
pub normal-form-tree : (q : Pool) → Sound q → ((s : ℕ) → s < count q → get_or q.tags s 0 ≡ 1 → s ≡ 0)
    → (t : ℕ) → t < count q → is_term_tag (get_or q.tags t 0) ≡ true → (p : Bool) → Interned q (normal_form q t p) (build (nnf (skeleton (term_in q t)) p))
unfolding normal_form
normal-form-tree q s one t h k p =
    let whole : count q ≤ length q.values = omega (arith, s.good.size) in
    let f = form q.tags q.values t in
    rw (nnf-map (vars_at q.tags q.values) (term_in q) f p, form-tree q.tags q.values (count q) whole s.formed one t h k) at
    (intern-tree (nnf f p) q s (nnf-fits q.tags (count q) f p (form-fits q.tags q.values (count q) whole s.formed t h k)))
