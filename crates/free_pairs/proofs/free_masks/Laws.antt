-- Laws of the code, one for each way through it.
-- Assumes nothing.
use Rattle.std.specs.Prelude.{Option, Some, None}
use Prim.Native.Nat.{ℕ, ◌+◌, ◌-◌, ◌*◌, ◌/◌, ◌%◌, ◌≤◌, ◌<◌}
use mathlib.Core.Path.{◌≡◌, refl, sym, ap₂, ◌∙◌}
use mathlib.Core.Bool.{Bool, true, false, cond, ◌||◌}
use mathlib.Core.List.{List, [], ◌∷◌}
use lib.ListN.{length, get_or, take, drop, set, replicate, length-take, length-drop}
use native.Mathlib.Nat.{min-le_left}
use lib.Bits.{bit_or}
use lib.Seq.{take_all, get_or-set_same, get_or-set_other, set_out}
use lib.Dec.{ltb, eqb}
use native.Mathlib.Omega.{arith}
use borrow.Author.Tests.{lt-ltb, le-ltb, eq-eqb, ne_eqb, eqb-true, eqb-false, ltb-true, ltb-false}
use Rattle.cells.specs.Cell.{sort_of, operands_of}
use Rattle.cells.specs.ByPlace.{by-test}
use Rattle.cells.specs.declared.TermPlace.{TermPlace}
use Rattle.descriptions.specs.Description.{find}
use Rattle.free_variables.specs.Free.{pair_in, any_of, let_values, is_free}
use Rattle.free_variables.specs.FreeMemo.{pair_kind_of, pair_sort, pairs_bind, free_below}
use Rattle.cells.proofs.marks.Laws.{zeros}
use Rattle.free_variables.proofs.free_vars.Laws.{any_none, any-first, no_value, first-value, look_self, look-low}
use Rattle.free_variables.specs.Names.{free_in}
use Rattle.free_variables.specs.NamesWalk.{free_among, free_under, free_in_let, Exactly, FreeFromMeans}
use Rattle.free_variables.specs.declared.pair_kind.PairKind.{PairKind}
use Rattle.free_variables.specs.declared.term_names.FreeFrom.{FreeFrom}
use Rattle.free_variables.specs.declared.term_names.FreeFrom.TheVariants as below
use Rattle.bindings.specs.Binding.{Binding, bindings_of, same}
use Rattle.free_pairs.specs.BindingFree.{binding_free, free_at}
use Rattle.bindings.specs.BindingAnswer.{pair, pair_at}
use Rattle.bindings.proofs.binding.Laws.{pairs_none, pairs_one, same-is}
use Rattle.free_pairs.specs.Mask.{mask_of, without, bound_in}
use Rattle.free_pairs.specs.MaskWalk.{binding_below, binding_under, mask_among, MaskMemo, MaskWalked, MaskNoted}
use Rattle.free_pairs.proofs.free_masks.Variables.{stands}
use Rattle.free_pairs.proofs.free_masks.Masks.{mask_fits, mask-same, mask-none, mask-less, mask-or, mask-without, without-le}

-- ---- the pairs of a list: none, or the first and the rest
rest-is : (l : List ℕ) → (length l < 2 → ⊥) → take (length l - 2) (drop 2 l) ≡ drop 2 l
rest-is l h = take_all (length l - 2) (drop 2 l) (rw (length-drop 2 l) (omega arith))

module _ (l : List ℕ) where
  none_left : length l < 2 → bindings_of l ≡ []
  none_left = pairs_none l

  first-left : 2 ≤ length l → bindings_of l ≡ pair_at l 0 ∷ bindings_of (take (length l - 2) (drop 2 l))
  first-left = pairs_one l

-- ---- equal pairs
module _ (l : List ℕ) (test : Binding → Bool) where
  pub equal-end : length l < 2 → 0 ≡ mask_of test (bindings_of l)
  unfolding mask_of
  equal-end h = rw (none_left l h)

  module _ (h : 2 ≤ length l) (rest : ℕ) (is : rest ≡ mask_of test (bindings_of (take (length l - 2) (drop 2 l)))) where
    pub equal-yes : (r : Bool) → r ≡ test (pair_at l 0) → r ≡ true → rest * 2 + 1 ≡ mask_of test (bindings_of l)
    unfolding mask_of
    equal-yes r e y = rw (first-left l h, ← is, ← e, y)

    pub equal-no : (r : Bool) → r ≡ test (pair_at l 0) → r ≡ false → rest * 2 ≡ mask_of test (bindings_of l)
    unfolding mask_of
    equal-no r e y = rw (first-left l h, ← is, ← e, y) (omega arith)

    -- the rest has room for one more bit
    pub equal-room : length l ≤ 62 → rest < 2147483648
    equal-room g = rw (is, rest-is l (λ q. omega arith)) (mask_fits test (drop 2 l) (rw (length-drop 2 l) (omega arith)))

-- ---- pairs that a binder binds
module _ (values : List ℕ) (kind : PairKind) (run l : List ℕ) (mask : ℕ) where
  pub unbound-end : length l < 2 → 0 ≡ without (bound_in values kind run) (bindings_of l) mask
  unfolding without
  unbound-end h = rw (none_left l h)

  module _ (h : 2 ≤ length l) (rest : ℕ) (is : rest ≡ without (bound_in values kind run) (bindings_of (take (length l - 2) (drop 2 l))) (mask / 2)) where
    pub unbound-unset : mask % 2 ≡ 0 → rest * 2 ≡ without (bound_in values kind run) (bindings_of l) mask
    unfolding without
    unbound-unset z =
        by-test (bound_in values kind run (pair_at l 0))
        (λ o. rw (first-left l h, ← is, o) (omega arith))
        (λ o. rw (first-left l h, ← is, o, z) (omega arith))

    -- the rest has room for one more bit, which is one of the mask's
    pub unbound-room : rest ≤ mask / 2
    unbound-room = rw is (without-le _ _ (mask / 2))

    module _ (r : Bool) (e : r ≡ pair_in (pair_sort values kind) (get_or l 0 0) (get_or l 1 0) (drop 1 run)) where
      pub unbound-bound : r ≡ true → rest * 2 ≡ without (bound_in values kind run) (bindings_of l) mask
      unfolding without bound_in
      unbound-bound y = rw (first-left l h, ← is, ← e, y) (omega arith)

      pub unbound-kept : r ≡ false → (mask % 2 ≡ 0 → ⊥) → rest * 2 + 1 ≡ without (bound_in values kind run) (bindings_of l) mask
      unfolding without bound_in
      unbound-kept y n = let one : mask % 2 ≡ 1 = omega arith in rw (first-left l h, ← is, ← e, y, one)

pub ruleset unbound = (unbound-end, unbound-unset, unbound-bound, unbound-kept)

-- ---- the variable at t
clash : {C : Type 0} → false ≡ true → C
clash e = absurd (let z : ◌≡◌ {A = ℕ} 0 1 = cc in omega arith)

same_self : (a s b u : ℕ) → a ≡ b → s ≡ u → same (pair a s) (pair b u) ≡ true
unfolding same
same_self a s b u p q = rw (eq-eqb a b p, eq-eqb s u q)

module _ (tags values : List ℕ) (n t : ℕ) (k : get_or tags t 0 ≡ 21) where
  variable-free : (v : ℕ) → is_free tags values v t ≡ eqb v t
  variable-free v =
      by-test (eqb v t)
      (λ o. rw o (sym (look_self tags values v t (sym (eqb-true v t o)))))
      (λ o. rw o (sym (look-low tags values v t (λ q. eqb-false v t o (sym q)) (get_or tags t 0) refl (omega arith))))

  module _ (name sort : ℕ) (names : name ≡ get_or values (t + 2) 0) (sorts : sort ≡ sort_of values t) where
    -- a pair of another name or sort is not the variable at t
    other-pair : (a : Binding) → same (pair name sort) a ≡ false → binding_free tags values n t a ≡ false
    unfolding binding_free
    other-pair a d = by (find tags values n 21 (a.sort ∷ (a.name ∷ []))) refl
      where
        by : (f : Option ℕ) → find tags values n 21 (a.sort ∷ (a.name ∷ [])) ≡ f → free_at tags values t f ≡ false
        by None q = refl
        by (Some v) q =
            let w = stands tags values n a.name a.sort v q in
            rw (variable-free v)
            (by-test (eqb v t)
            (λ o.
            let e : v ≡ t = eqb-true v t o in
            clash (sym d ∙ same_self name sort a.name a.sort (names ∙ (rw e at w).name-is) (sorts ∙ (rw e at w).sort-is)))
            (λ o. o))

    module _ (l : List Binding) (mask : ℕ) (is : mask ≡ mask_of (same (pair name sort)) l) where
      pub variable-none : mask ≡ 0 → 0 ≡ mask_of (binding_free tags values n t) l
      variable-none z = sym (mask-less (same (pair name sort)) (binding_free tags values n t) l other-pair (sym is ∙ z))

      module _ (f : Option ℕ) (there : f ≡ find tags values n 21 (sort ∷ (name ∷ []))) where
        -- a pair of this name and sort is the variable at t if that is found
        this-pair : (a : Binding) → same (pair name sort) a ≡ true → binding_free tags values n t a ≡ free_at tags values t f
        unfolding binding_free
        this-pair a e = rw (← same-is (pair name sort) a e, there)

        both : (answer : Bool) → free_at tags values t f ≡ answer → (a : Binding) → same (pair name sort) a ≡ true → binding_free tags values n t a ≡ answer
        both answer q a e = this-pair a e ∙ q

        not_there : free_at tags values t f ≡ false → 0 ≡ mask_of (binding_free tags values n t) l
        not_there q = sym (mask-none (binding_free tags values n t) l (λ a. by-test (same (pair name sort) a) (λ e. both false q a e) (λ d. other-pair a d)))

        pub variable-lost : f ≡ None → 0 ≡ mask_of (binding_free tags values n t) l
        variable-lost e = not_there (rw e)

        module _ (v : ℕ) (e : f ≡ Some v) where
          pub variable-here : v ≡ t → mask ≡ mask_of (binding_free tags values n t) l
          variable-here o =
              is
              ∙ mask-same _ _ l (λ a. by-test (same (pair name sort) a)
              (λ s. s ∙ sym (both true (rw e (variable-free v ∙ eq-eqb v t o)) a s))
              (λ s. s ∙ sym (other-pair a s)))

          pub variable-elsewhere : (v ≡ t → ⊥) → 0 ≡ mask_of (binding_free tags values n t) l
          variable-elsewhere o = not_there (rw e (variable-free v ∙ ne_eqb v t o))

pub ruleset variable = (variable-none, variable-lost, variable-here, variable-elsewhere)

-- ---- the walk at t
any-false-of : (test : ℕ → Bool) (l : List ℕ) → ((u : ℕ) → test u ≡ false) → any_of test l ≡ false
unfolding any_of
any-false-of test [] h = refl
any-false-of test (u ∷ l) h = rw (h u, any-false-of test l h)

-- the test of a variable that a scan finds
abbrev at_found : (ℕ → Bool) → Option ℕ → Bool
at_found test (Some v) = test v
at_found test None = false

module _ (tags values : List ℕ) (n t : ℕ) where
  binding-is : (test : ℕ → Bool) → Exactly tags values t test → (a : Binding) → binding_free tags values n t a ≡ at_found test (find tags values n 21 (a.sort ∷ (a.name ∷ [])))
  unfolding binding_free free_in
  binding-is test w a = by (find tags values n 21 (a.sort ∷ (a.name ∷ []))) refl
    where
      by : (f : Option ℕ) → find tags values n 21 (a.sort ∷ (a.name ∷ [])) ≡ f → free_at tags values t f ≡ at_found test f
      by None q = refl
      by (Some v) q = w.at v (stands tags values n a.name a.sort v q).tag

  no_found : (f : Option ℕ) → at_found (λ v. false) f ≡ false
  no_found (Some v) = refl
  no_found None = refl

  under-found : (u : ℕ) (a : Binding) (f : Option ℕ) → find tags values n 21 (a.sort ∷ (a.name ∷ [])) ≡ f
      → at_found (free_under tags values t u) f ≡ cond (bound_in values (pair_kind_of (get_or tags t 0)) (operands_of tags values t) a) false (free_at tags values u f)
  unfolding free_under free_in bound_in pairs_bind
  under-found u a None q =
      by-test (bound_in values (pair_kind_of (get_or tags t 0)) (operands_of tags values t) a) (λ o. rw o) (λ o. rw o)
  under-found u a (Some v) q = let w = stands tags values n a.name a.sort v q in rw (w.name-is, w.sort-is)

  among-found : (run : List ℕ) (f : Option ℕ) → at_found (free_among tags values t run) f ≡ any_of (λ u. cond (ltb u t) (free_at tags values u f) false) run
  unfolding free_among free_below
  among-found run None = sym (any-false-of _ run (λ u. by-test (ltb u t) (λ o. rw o) (λ o. rw o)))
  among-found run (Some v) = refl

  let-found : (u : ℕ) (f : Option ℕ)
      → at_found (free_in_let tags values t u) f ≡ at_found (free_among tags values t (let_values (operands_of tags values t))) f || at_found (free_under tags values t u) f
  unfolding free_in_let
  let-found u None = refl
  let-found u (Some v) = refl

  under-is : (u : ℕ) → Exactly tags values t (free_under tags values t u) → (a : Binding)
      → binding_free tags values n t a ≡ binding_under tags values n t u a
  unfolding binding_free binding_under
  under-is u w a = binding-is _ w a ∙ under-found u a (find tags values n 21 (a.sort ∷ (a.name ∷ []))) refl

  among-is : (run : List ℕ) → Exactly tags values t (free_among tags values t run) → (a : Binding) → binding_free tags values n t a ≡ any_of (binding_below tags values n a t) run
  unfolding binding_free binding_below
  among-is run w a = binding-is _ w a ∙ among-found run (find tags values n 21 (a.sort ∷ (a.name ∷ [])))

  -- a let: in a value, or in the body and not bound
  let-is : (u : ℕ) → Exactly tags values t (free_in_let tags values t u) → (a : Binding)
      → binding_free tags values n t a
      ≡ any_of (binding_below tags values n a t) (let_values (operands_of tags values t))
      || binding_under tags values n t u a
  unfolding binding_free binding_below binding_under
  let-is u w a =
      let f = find tags values n 21 (a.sort ∷ (a.name ∷ [])) in
      binding-is _ w a ∙ (let-found u f ∙ ap₂ ◌||◌ (among-found (let_values (operands_of tags values t)) f) (under-found u a f refl))

-- the masks of two tests that agree
module _ (tags values : List ℕ) (n : ℕ) (list memo : List ℕ) (mask : ℕ) (test test' : Binding → Bool) (agree : (a : Binding) → test' a ≡ test a) where
  walked-same : MaskWalked tags values n list memo mask (mask_of test (bindings_of list)) → MaskWalked tags values n list memo mask (mask_of test' (bindings_of list))
  walked-same w = record { is = w.is ∙ sym (mask-same _ _ (bindings_of list) agree); right = w.right }

module _ (tags values : List ℕ) (n t : ℕ) (list : List ℕ) where
  pub walk-known : (memo : List ℕ) → MaskMemo tags values n list memo → (known : ℕ) → known ≡ get_or memo t 0 → (known ≡ 0 → ⊥)
      → MaskWalked tags values n list memo (known - 1) (mask_of (binding_free tags values n t) (bindings_of list))
  walk-known memo right known is o = record { is = rw is (right.at t (λ z. o (is ∙ z))); right = right }

  module _ (s : FreeFrom) (m : FreeFromMeans tags values t s) where
    module _ (memo : List ℕ) where
      pub walk-nothing : s ≡ below.Nothing → MaskMemo tags values n list memo → MaskWalked tags values n list memo 0 (mask_of (binding_free tags values n t) (bindings_of list))
      walk-nothing e right = record {
        is = sym (mask-none _ _ (λ a. binding-is tags values n t _ (rw e at m) a ∙ no_found tags values n t (find tags values n 21 (a.sort ∷ (a.name ∷ [])))));
        right = right;
      }

      module _ (mask : ℕ) where
        pub walk-body : (u : TermPlace) → s ≡ below.Body u → MaskWalked tags values n list memo mask (mask_of (binding_under tags values n t u.0) (bindings_of list))
            → MaskWalked tags values n list memo mask (mask_of (binding_free tags values n t) (bindings_of list))
        walk-body u e = walked-same tags values n list memo mask _ _ (under-is tags values n t u.0 (rw e at m).1)

        pub walk-run : s ≡ below.Run → (run : List ℕ) → run ≡ operands_of tags values t → MaskWalked tags values n list memo mask (mask_among tags values n list t run)
            → MaskWalked tags values n list memo mask (mask_of (binding_free tags values n t) (bindings_of list))
        unfolding mask_among
        walk-run e run o w = walked-same tags values n list memo mask _ _ (among-is tags values n t (operands_of tags values t) (rw e at m)) (rw o at w)

        pub walk-values : s ≡ below.Values → (run : List ℕ) → run ≡ operands_of tags values t
            → MaskWalked tags values n list memo mask (mask_among tags values n list t (let_values run))
            → MaskWalked tags values n list memo mask (mask_of (binding_free tags values n t) (bindings_of list))
        unfolding mask_among
        walk-values e run o w = walked-same tags values n list memo mask _ _ (among-is tags values n t (let_values (operands_of tags values t)) (rw e at m)) (rw o at w)

        pub walk-let : (u : TermPlace) → s ≡ below.Let u → (run : List ℕ) → run ≡ operands_of tags values t
            → MaskWalked tags values n list memo mask (mask_among tags values n list t (let_values run))
            → (memo' : List ℕ) (rest : ℕ) → MaskWalked tags values n list memo' rest (mask_of (binding_under tags values n t u.0) (bindings_of list))
            → MaskWalked tags values n list memo' (bit_or mask rest) (mask_of (binding_free tags values n t) (bindings_of list))
        unfolding mask_among
        walk-let u e run o w memo' rest w' =
            let A : Binding → Bool = λ a. any_of (binding_below tags values n a t) (let_values (operands_of tags values t)) in
            let p : mask ≡ mask_of A (bindings_of list) = w.is ∙ rw o in
            walked-same tags values n list memo' (bit_or mask rest) _ _ (let-is tags values n t u.0 (rw e at m).1)
            (record { is = rw (p, w'.is) (mask-or A (binding_under tags values n t u.0) (bindings_of list)); right = w'.right })

  -- a mask noted for t keeps the memo right
  module _ (memo : List ℕ) (mask : ℕ) (w : MaskWalked tags values n list memo mask (mask_of (binding_free tags values n t) (bindings_of list))) where
    more-right : MaskMemo tags values n list (set memo t (mask + 1))
    more-right = record {
      at = λ u o. by-test (eqb u t)
          (λ e. here u (eqb-true u t e) o)
          (λ e. let q = get_or-set_other memo t u (mask + 1) 0 (eqb-false u t e) in rw q (w.right.at u (λ z. o (q ∙ z))));
    }
      where
        here : (u : ℕ) → u ≡ t → (get_or (set memo t (mask + 1)) u 0 ≡ 0 → ⊥) → get_or (set memo t (mask + 1)) u 0 - 1 ≡ mask_of (binding_free tags values n u) (bindings_of list)
        here u e o =
            by-test (ltb t (length memo))
            (λ b. let q : get_or (set memo t (mask + 1)) t 0 - 1 ≡ mask = rw (get_or-set_same memo t (mask + 1) 0 (ltb-true _ _ b)) (omega arith) in rw e (q ∙ w.is))
            (λ b. let q : set memo t (mask + 1) ≡ memo = set_out memo t (mask + 1) (ltb-false _ _ b) in rw q (w.right.at u (λ z. o (rw q z))))

    pub noted : (after : List ℕ) (r : ℕ) → MaskNoted memo t mask after r → MaskWalked tags values n list after r (mask_of (binding_free tags values n t) (bindings_of list))
    noted after r m = record { is = m.same ∙ w.is; right = rw m.kept more-right }

pub ruleset finds = (walk-nothing, walk-body, walk-run, walk-values, walk-let)

-- ---- the walk into the body at u of the term at t
pub under-walked : (tags values : List ℕ) (n t u : ℕ) (list memo : List ℕ) (mask : ℕ) → MaskWalked tags values n list memo mask (mask_of (binding_free tags values n u) (bindings_of list))
    → (tag : ℕ) → tag ≡ get_or tags t 0 → (kind : PairKind) → kind ≡ pair_kind_of tag → (run : List ℕ) → run ≡ operands_of tags values t
    → (rest : ℕ) → rest ≡ without (bound_in values kind run) (bindings_of list) mask
    → MaskWalked tags values n list memo rest (mask_of (binding_under tags values n t u) (bindings_of list))
unfolding binding_under
under-walked tags values n t u list memo mask w tag k kind q run o rest is = record {
  is = is ∙ rw (w.is, o, q, k) (mask-without _ _ (bindings_of list));
  right = w.right;
}

-- ---- the walk along the places l, of which the first is u
module _ (tags values : List ℕ) (n t u : ℕ) (list l left : List ℕ)
    (first : (a : Binding) → any_of (binding_below tags values n a t) l ≡ binding_below tags values n a t u || any_of (binding_below tags values n a t) left) where
  skip : t ≤ u → (memo : List ℕ) (r : ℕ) → MaskWalked tags values n list memo r (mask_among tags values n list t left)
      → MaskWalked tags values n list memo r (mask_among tags values n list t l)
  unfolding mask_among binding_below
  skip h memo r w = record {
    is = w.is ∙ sym (mask-same _ _ (bindings_of list) (λ a. first a ∙ rw (le-ltb u t h)));
    right = w.right;
  }

  go_on : u < t → (memo : List ℕ) (mask : ℕ) → MaskWalked tags values n list memo mask (mask_of (binding_free tags values n u) (bindings_of list))
      → (memo' : List ℕ) (rest : ℕ) → MaskWalked tags values n list memo' rest (mask_among tags values n list t left)
      → MaskWalked tags values n list memo' (bit_or mask rest) (mask_among tags values n list t l)
  unfolding mask_among binding_below
  go_on h memo mask w memo' rest w' =
      let among : Binding → Bool = λ a. any_of (binding_below tags values n a t) left in
      let both : bit_or mask rest ≡ mask_of (λ a. binding_free tags values n u a || among a) (bindings_of list) =
      rw (w.is, w'.is) (mask-or (binding_free tags values n u) among (bindings_of list)) in
      record {
        is = both ∙ sym (mask-same _ _ (bindings_of list) (λ a. first a ∙ rw (lt-ltb u t h)));
        right = w'.right;
      }

-- ---- along a run
module _ (tags values : List ℕ) (n t : ℕ) (list run : List ℕ) where
  pub run_end : (memo : List ℕ) → MaskMemo tags values n list memo → length run ≡ 0 → MaskWalked tags values n list memo 0 (mask_among tags values n list t run)
  unfolding mask_among
  run_end memo right e = record { is = sym (mask-none _ _ (λ a. sym (any_none _ run e))); right = right }

  module _ (some : length run ≡ 0 → ⊥) where
    pub run-skip : t ≤ get_or run 0 0 → (memo : List ℕ) (r : ℕ)
        → MaskWalked tags values n list memo r (mask_among tags values n list t (take (length run - 1) (drop 1 run)))
        → MaskWalked tags values n list memo r (mask_among tags values n list t run)
    run-skip = skip tags values n t (get_or run 0 0) list run _ (λ a. any-first _ run some)

    pub run_on : get_or run 0 0 < t
        → (memo : List ℕ) (mask : ℕ) → MaskWalked tags values n list memo mask (mask_of (binding_free tags values n (get_or run 0 0)) (bindings_of list))
        → (memo' : List ℕ) (rest : ℕ) → MaskWalked tags values n list memo' rest (mask_among tags values n list t (take (length run - 1) (drop 1 run)))
        → MaskWalked tags values n list memo' (bit_or mask rest) (mask_among tags values n list t run)
    run_on = go_on tags values n t (get_or run 0 0) list run _ (λ a. any-first _ run some)

-- ---- along a let's values
module _ (tags values : List ℕ) (n t : ℕ) (list run : List ℕ) where
  pub values-end : (memo : List ℕ) → MaskMemo tags values n list memo → length run < 3 → MaskWalked tags values n list memo 0 (mask_among tags values n list t (let_values run))
  unfolding mask_among
  values-end memo right e = record { is = sym (mask-none _ _ (λ a. sym (no_value _ run e))); right = right }

  module _ (some : 3 ≤ length run) where
    pub values-skip : t ≤ get_or run 2 0 → (memo : List ℕ) (r : ℕ)
        → MaskWalked tags values n list memo r (mask_among tags values n list t (let_values (take (length run - 2) (drop 2 run))))
        → MaskWalked tags values n list memo r (mask_among tags values n list t (let_values run))
    values-skip = skip tags values n t (get_or run 2 0) list (let_values run) _ (λ a. first-value _ run some)

    pub values-on : get_or run 2 0 < t
        → (memo : List ℕ) (mask : ℕ) → MaskWalked tags values n list memo mask (mask_of (binding_free tags values n (get_or run 2 0)) (bindings_of list))
        → (memo' : List ℕ) (rest : ℕ) → MaskWalked tags values n list memo' rest (mask_among tags values n list t (let_values (take (length run - 2) (drop 2 run))))
        → MaskWalked tags values n list memo' (bit_or mask rest) (mask_among tags values n list t (let_values run))
    values-on = go_on tags values n t (get_or run 2 0) list (let_values run) _ (λ a. first-value _ run some)

pub ruleset walks = (run_end, run-skip, run_on, values-end, values-skip, values-on)

-- ---- a mask has room for one more
module _ (list : List ℕ) (h : length list ≤ 62) where
  pub known-room : (test : Binding → Bool) (mask : ℕ) → mask ≡ mask_of test (bindings_of list) → mask < 2147483648
  known-room test mask is = rw is (mask_fits test list h)

-- ---- a fresh memo
pub fresh : (tags values : List ℕ) (n : ℕ) (list : List ℕ) (k : ℕ) → MaskMemo tags values n list (replicate k 0)
fresh tags values n list k = record { at = λ u o. absurd (o (zeros k u)) }

-- ---- the first 31 pairs of a list
module _ (l g : List ℕ) (is : g ≡ take 62 l) where
  pub group-fits : length g ≤ 62
  group-fits = rw (is, length-take 62 l) (min-le_left 62 (length l))

  pub group-mask : (tags values : List ℕ) (n t : ℕ) (memo : List ℕ) (r : ℕ) → MaskWalked tags values n g memo r (mask_of (binding_free tags values n t) (bindings_of g))
      → r ≡ mask_of (binding_free tags values n t) (bindings_of (take 62 l))
  group-mask tags values n t memo r w = rw (← is) w.is
