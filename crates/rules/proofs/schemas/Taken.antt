-- Rule 3's lists: the left list with the variables taken out, at places and on trees.
--     has_left                     the list of pairs holds a pair exactly if the variables hold the pair's
--     new-there, new-back          refusal 8
--     missing-there, missing-back  refusal 9
-- Assumes nothing.
use Rattle.std.specs.Prelude.{Option, Some, None}
use Prim.Native.Nat.{ℕ, ◌+◌, ◌<◌}
use mathlib.Core.Path.{◌≡◌, refl, sym, ap, ap₂, ◌∙◌}
use mathlib.Core.Bool.{Bool, true, false, not, ◌&&◌, ◌||◌, and-false}
use mathlib.Core.List.{List, [], ◌∷◌, ◌++◌}
use lib.ListN.{get_or}
use lib.Seq.{get_or-take}
use native.Mathlib.Omega.{arith}
use Rattle.cells.specs.Cell.{sort_of}
use Rattle.headers.specs.WellFormed.{is_sort_tag, is_term}
use Rattle.descriptions.specs.Description.{find}
use Rattle.meaning.specs.Sort.{Sort}
use Rattle.meaning.specs.Term.{Var, Vars}
use Rattle.meaning.specs.Tree.{sort_tree, tree}
use Rattle.meaning.specs.FreeTree.{has as has_var, free, var_at}
use Rattle.meaning.proofs.trees.Sorts.{sort-one}
use Rattle.meaning.proofs.trees.Stated.{var-tag}
use Rattle.meaning.proofs.trees.Passed.{Passed, sort-place-of, free-stands, cells-of-var, found_at}
use Rattle.formulas.specs.Normal.{Normal, Normals, lit, nmany, nall, nnil, ncons, nnf, taken, takens}
use Rattle.formulas.specs.Built.{Pool, count, normal_at}
use Rattle.meaning.specs.Skeleton.{skeleton}
use Rattle.meaning.proofs.places.FormFits.{FitsN, FitsNs}
use Rattle.meaning.proofs.truth.Over.{bool_cases, same-at, has-append}
use Rattle.building.specs.Arrays.{normal_in}
use Rattle.normal_form.proofs.NormalFormTruth.{used-count, normal-form-is}
use Rattle.normal_form.proofs.ClauseListTruth.{old-sort, taken-are, normal-form-read}
use Rattle.bindings.specs.Binding.{Binding, bindings_of, has, first_of}
use Rattle.free_pairs.specs.BindingFree.{binding_free, free_at}
use Rattle.meaning.proofs.patterns.Bindings.{first-none, first-is-none, pairs-append, var_of, vars_at, has-at, has-pair}
use Rattle.meaning.proofs.patterns.Trees.{term-below, SortPlace, Sorted, sorted-append, pairs-sorted, sorted-has, binding-free}
use Rattle.clausification.specs.QntCnf.{taken_from}
use Rattle.rules.proofs.sound.QntCnf.{vars-taken, list-fewer}
use Rattle.schemas.specs.Schemas.{Among, FreeAmong, with_taken}
use Rattle.meaning.proofs.patterns.Back.{has-is}
use Rattle.normal_form.proofs.Single.{normal-single}

-- ---- the pairs of a form
module _ (tags : List ℕ) (n : ℕ) where
  mutual
    taken-sorted : (f : Normal (List ℕ) ℕ) → FitsN tags n f → Sorted tags n (taken bindings_of f)
    taken-sorted (lit b x) o = tt
    taken-sorted (nmany b ns) o = takens-sorted ns o
    taken-sorted (nall true vs f) o =
        sorted-append tags n (bindings_of vs) (taken bindings_of f) (pairs-sorted tags n n 2 vs (omega arith) (omega arith) refl o.0.1) (taken-sorted f o.1)
    taken-sorted (nall false vs f) o = tt

    takens-sorted : (fs : Normals (List ℕ) ℕ) → FitsNs tags n fs → Sorted tags n (takens bindings_of fs)
    takens-sorted nnil o = tt
    takens-sorted (ncons f fs) o = sorted-append tags n (taken bindings_of f) (takens bindings_of fs) (taken-sorted f o.0) (takens-sorted fs o.1)

-- ---- what is taken out of the term at t
module _ {tags values rules : List ℕ} {n : ℕ} (c : Passed tags values rules n) (t : ℕ) (term : is_term tags n t ≡ true) where
  q : Pool
  q = (normal_in tags values n t true).pool

  f : Normal (List ℕ) ℕ
  unfolding q
  f = normal_at q (normal_in tags values n t true).place

  abbrev out : Vars
  out = taken (λ (vs : Vars). vs) (nnf (skeleton (tree tags values t)) true)

  out-are : vars_at q.tags q.values (taken bindings_of f) ≡ out
  unfolding q f
  out-are = let (h, k) = term-below c t term in vars-taken q.tags q.values f ∙ taken-are c t h k

  out-sorted : Sorted q.tags (count q) (taken bindings_of f)
  unfolding q f
  out-sorted = let (h, k) = term-below c t term in taken-sorted q.tags (count q) f (normal-form-read c t h k).fits

  -- a sort of the pool is one of the pool that is built
  module _ (s : ℕ) (l : s < n) (k : is_sort_tag (get_or tags s 0) ≡ true) where
    still-sort : SortPlace q.tags (count q) s
    unfolding q
    still-sort =
        let (h, m) = term-below c t term in
        let i = normal-form-is c t h m true in
        (omega (arith, i.grows.longer, used-count c), rw (i.grows.tags-same s (omega (arith, used-count c)), get_or-take n tags s 0 l) k)

    still-tree : sort_tree q.tags q.values s ≡ sort_tree tags values s
    unfolding q
    still-tree = let (h, m) = term-below c t term in let i = normal-form-is c t h m true in old-sort c q i.sound.good i.grows s l k

  var-still : (a : Binding) → SortPlace tags n a.sort → var_of q.tags q.values a ≡ var_of tags values a
  unfolding var_of
  var-still a (l, k) = ap (λ (s : Sort). record { name = a.name; sort = s }) (still-tree a.sort l k)

  one-pair : (a b : Binding) → SortPlace tags n a.sort → SortPlace q.tags (count q) b.sort → var_of q.tags q.values b ≡ var_of tags values a → b ≡ a
  unfolding var_of q
  one-pair a b (l, k) (m, o) e =
      let (h, i) = term-below c t term in
      let j = normal-form-is c t h i true in
      let (u, v) = still-sort a.sort l k in
      let p : b.name ≡ a.name = ap (λ (v : Var). v.name) e in
      let r : b.sort ≡ a.sort =
      sort-one q.tags q.values (count q) (omega (arith, j.sound.good.size)) j.sound.formed (normal-single c t true) b.sort a.sort m u o v
      (ap (λ (v : Var). v.sort) e ∙ sym (still-tree a.sort l k)) in
      λ i. record { name = p i; sort = r i }

  has-taken : (a : Binding) → SortPlace tags n a.sort → has (taken bindings_of f) a ≡ has_var out (var_of tags values a)
  has-taken a s =
      same-at true (has (taken bindings_of f) a) _
      (λ e. rw (out-are, var-still a s) at (has-at q.tags q.values (taken bindings_of f) a e))
      (λ e. has-pair q.tags q.values (taken bindings_of f) (var_of tags values a) (rw out-are e)
      (λ b m p. rw (one-pair a b s (sorted-has q.tags (count q) (taken bindings_of f) out-sorted b m) p) at m))

  module _ (ls : List Binding) (sorted : Sorted tags n ls) where
    abbrev pairs : List Binding
    pairs = ls ++ taken_from tags values n t

    abbrev vars : Vars
    vars = with_taken (vars_at tags values ls) (tree tags values t)

    pub has_left : (a : Binding) → SortPlace tags n a.sort → has pairs a ≡ has_var vars (var_of tags values a)
    unfolding taken_from q f
    has_left a s =
        pairs-append ls (taken_from tags values n t) a
        ∙ (ap₂ ◌||◌ (has-is c ls sorted a s) (has-taken a s) ∙ sym (has-append (vars_at tags values ls) out (var_of tags values a)))

    -- ---- 8
    module _ (rs : List Binding) (sorts : Sorted tags n rs) where
      pub new-there : first_of (λ a. not (has pairs a)) rs ≡ None → Among (vars_at tags values rs) vars
      new-there = list-fewer c t term ls rs sorts

      pub new-back : Among (vars_at tags values rs) vars → first_of (λ a. not (has pairs a)) rs ≡ None
      new-back h =
          first-is-none (λ a. not (has pairs a)) rs
          (λ a m. ap not (has_left a (sorted-has tags n rs sorts a m) ∙ h (var_of tags values a) (has-at tags values rs a m)))

      -- ---- 9
      module _ (u : ℕ) (k : is_term tags n u ≡ true) where
        -- a variable that is free stands in the pool, with a pair of its own
        own_pair : {C : Type 0} (v : Var) → free (tree tags values u) v ≡ true → ((a : Binding) → SortPlace tags n a.sort → var_of tags values a ≡ v → C) → C
        unfolding var_of var_at
        own_pair v e go =
            let (h, m) = term-below c u k in
            let w = free-stands c v u h m e in
            let (l, o) = sort-place-of c w.place w.below (var-tag _ w.tag) in
            go (record { name = get_or values (w.place + 2) 0; sort = sort_of values w.place }) (omega (arith, w.below), o) w.is

        -- a pair that is free has a sort of the pool
        pub free-place : (a : Binding) → binding_free tags values n u a ≡ true → SortPlace tags n a.sort
        unfolding binding_free
        free-place a e = by-found (find tags values n 21 (a.sort ∷ a.name ∷ [])) refl e
          where
            by-found : (w : Option ℕ) → find tags values n 21 (a.sort ∷ a.name ∷ []) ≡ w → free_at tags values u w ≡ true → SortPlace tags n a.sort
            by-found (Some v) o e =
                let (l, tag, same-cells) = found_at c 21 (a.sort ∷ a.name ∷ []) v o in
                let both-cells = sym (cells-of-var c v l tag) ∙ same-cells in
                let p : sort_of values v ≡ a.sort = cc in
                let (m, i) = sort-place-of c v l (var-tag _ tag) in
                rw (← p) (omega arith, i)
            by-found None o e = let z : ◌≡◌ {A = ℕ} 0 1 = cc in absurd (omega arith)

        pub missing-there : first_of (λ a. not (has rs a) && binding_free tags values n u a) pairs ≡ None → FreeAmong (tree tags values u) vars (vars_at tags values rs)
        missing-there e v h y =
            own_pair v y λ a s p.
            let m : has pairs a ≡ true = has_left a s ∙ rw p h in
            let b : binding_free tags values n u a ≡ true = binding-free c u k a s ∙ rw p y in
            let z : (not (has rs a) && true) ≡ false = rw b at (first-none (λ a. not (has rs a) && binding_free tags values n u a) pairs e a m) in
            rw (← p) (has-at tags values rs a (not-not (has rs a) z))
          where
            not-not : (x : Bool) → (not x && true) ≡ false → x ≡ true
            not-not true e = refl
            not-not false e = sym e

        pub missing-back : FreeAmong (tree tags values u) vars (vars_at tags values rs) → first_of (λ a. not (has rs a) && binding_free tags values n u a) pairs ≡ None
        missing-back h =
            first-is-none (λ a. not (has rs a) && binding_free tags values n u a) pairs λ a m.
            bool_cases (binding_free tags values n u a)
            (λ e. let s = free-place a e in
            let w : has rs a ≡ true = has-is c rs sorts a s ∙ h (var_of tags values a) (sym (has_left a s) ∙ m) (sym (binding-free c u k a s) ∙ e) in
            rw w)
            (λ e. rw e (and-false (not (has rs a))))
