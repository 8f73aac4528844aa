-- Making rows: one law for each way through `make_row`.
-- Assumes nothing.
use Prim.Native.Nat.{ℕ, ◌+◌, ◌<◌}
use mathlib.Core.Path.{◌≡◌, refl, sym, ◌∙◌}
use mathlib.Core.Bool.{Bool, ◌||◌}
use mathlib.Core.List.{List}
use lib.ListN.{get_or}
use native.Mathlib.Omega.{arith}
use Rattle.cells.specs.ByPlace.{by-test}
use Rattle.cells.specs.Cell.{operands_of}
use Rattle.cells.specs.declared.TermPlace.{TermPlace}
use Rattle.free_variables.specs.Free.{let_values}
use Rattle.free_variables.specs.declared.pair_kind.PairKind.{PairKind}
use Rattle.free_variables.specs.FreeMemo.{pair_kind_of, pairs_bind}
use Rattle.free_variables.specs.Names.{free_in}
use Rattle.free_variables.specs.NamesWalk.{free_among, free_under, free_in_let, Exactly, FreeFromMeans}
use Rattle.free_variables.specs.declared.term_names.FreeFrom.{FreeFrom}
use Rattle.free_variables.specs.declared.term_names.FreeFrom.TheVariants.{Nothing, Variable, Body, Run, Values, Let}
use Rattle.appearance.specs.Pairs.{IndexedVariables}
use Rattle.appearance.specs.Rows.{Holds, Ready, Adds, Drops, Makes}
use Rattle.appearance.proofs.bits.Laws.{clash}
use Rattle.appearance.proofs.rows.Kept.{holds-grown, ready-kept, ready-fewer}

module _ (tags values index : List ℕ) (words : ℕ) (a : List ℕ) (to t : ℕ) where
  -- what is free in the term is what passes a test
  exactly-holds : (n : ℕ) (a' : List ℕ) (test : ℕ → Bool) → Exactly tags values t test → Holds tags n a' to test → Holds tags n a' to (free_in tags values t)
  exactly-holds n a' test w h = record { at = λ v l e f. h.at v l e (sym (w.at v e) ∙ f) }

  module _ (s : FreeFrom) (m : FreeFromMeans tags values t s) where
    pub make-nothing : s ≡ Nothing → Makes tags values index words a to t a
    make-nothing e = record {
      long = refl;
      below = λ i h. refl;
      holds = λ n x r k. exactly-holds n a _ (rw e at m) (record { at = λ v l q f. clash f });
    }

    pub make-variable : s ≡ Variable → Makes tags values index words a to t a
    make-variable e = record {
      long = refl;
      below = λ i h. refl;
      holds = λ n x r k. absurd (omega (arith, (rw e at m).0));
    }

    module _ (run : List ℕ) (o : run ≡ operands_of tags values t) where
      pub make-run : s ≡ Run → (a' : List ℕ) → Adds tags words a t to a' (λ values. free_among tags values t run) → Makes tags values index words a to t a'
      make-run e a' d = record {
        long = d.grown.long;
        below = d.grown.below;
        holds = λ n x r k. exactly-holds n a' _ (rw e at m) (rw o at (d.holds values n r));
      }

      pub make-values : s ≡ Values → (a' : List ℕ) → Adds tags words a t to a' (λ values. free_among tags values t (let_values run)) → Makes tags values index words a to t a'
      make-values e a' d = record {
        long = d.grown.long;
        below = d.grown.below;
        holds = λ n x r k. exactly-holds n a' _ (rw e at m) (rw o at (d.holds values n r));
      }

      -- the body at u, and then without what the pairs bind
      module _ (tag : ℕ) (is : tag ≡ get_or tags t 0) (kind : PairKind) (y : kind ≡ pair_kind_of tag) (u : TermPlace)
          (b : List ℕ) (d : Adds tags words a (u.0 + 1) to b (λ values. free_in tags values u.0))
          (c : List ℕ) (p : Drops tags values index b to c kind run) where
        under : u.0 < t → (n : ℕ) → IndexedVariables tags values n index → Ready tags values n words a t to → Holds tags n c to (free_under tags values t u.0)
        unfolding free_under
        under h n x r =
            let r' : Ready tags values n words b t to = ready-kept tags values n words a t to r b d.grown.long d.grown.below in
            let g : Holds tags n b to (free_in tags values u.0) = d.holds values n (ready-fewer tags values n words a t to r (u.0 + 1) (omega arith)) in
            record {
              at = λ v l e f. by-test (pairs_bind values (pair_kind_of (get_or tags t 0)) v (operands_of tags values t))
                  (λ z. clash (rw z at f))
                  (λ z. p.kept n v x r'.rows.numbered r.rows.above l e (rw (y, is, o) z) (g.at v l e (rw z at f)));
            }

        pub make-body : s ≡ Body u → Makes tags values index words a to t c
        make-body e = record {
          long = p.long ∙ d.grown.long;
          below = λ i h. p.below i h ∙ d.grown.below i h;
          holds = λ n x r k. exactly-holds n c _ (rw e at m).1 (under (rw e at m).0 n x r);
        }

        pub make-let : s ≡ Let u → (a' : List ℕ) → Adds tags words c t to a' (λ values. free_among tags values t (let_values run)) → Makes tags values index words a to t a'
        unfolding free_in_let
        make-let e a' f = record {
          long = f.grown.long ∙ p.long ∙ d.grown.long;
          below = λ i h. f.grown.below i h ∙ kept i h;
          holds = λ n x r k. exactly-holds n a' _ (rw e at m).1 (both n x r);
        }
          where
            kept : (i : ℕ) → i < to → get_or c i 0 ≡ get_or a i 0
            kept i h = p.below i h ∙ d.grown.below i h

            both : (n : ℕ) → IndexedVariables tags values n index → Ready tags values n words a t to
                → Holds tags n a' to (λ v. free_among tags values t (let_values (operands_of tags values t)) v || free_under tags values t u.0 v)
            both n x r =
                let g : Holds tags n a' to (free_under tags values t u.0) = holds-grown tags n c to a' _ f.grown (under (rw e at m).0 n x r) in
                let w : Holds tags n a' to (free_among tags values t (let_values (operands_of tags values t))) =
                rw o at (f.holds values n (ready-kept tags values n words a t to r c (p.long ∙ d.grown.long) kept)) in
                record {
                  at = λ v l q j. by-test (free_among tags values t (let_values (operands_of tags values t)) v)
                      (λ z. w.at v l q z)
                      (λ z. g.at v l q (rw z at j));
                }

pub ruleset makes = (make-nothing, make-variable, make-run, make-values, make-body, make-let)
