-- The index of arrays that have the same cells below its count.
-- Assumes nothing.
use Rattle.std.specs.Prelude.{None}
use Prim.Native.Nat.{ℕ, zero, suc, ◌+◌, ◌≤◌}
use mathlib.Core.Path.{◌≡◌, refl, sym, ap, ◌∙◌}
use mathlib.Core.List.{List}
use lib.ListN.{get_or}
use native.Mathlib.Omega.{arith}
use Rattle.cells.specs.Cell.{is_at}
use Rattle.cells.proofs.Walks.{first-end}
use Rattle.descriptions.specs.Description.{find}
use Rattle.descriptions.proofs.description.Fills.{or_else, or_nothing}
use Rattle.descriptions.proofs.description.Growth.{Same, cells_same, at_same, find-grown}
use Rattle.descriptions.specs.Index.{bucket_of, look_up, Within, bucket_at, Index}
use Rattle.descriptions.proofs.index.Laws.{on_same}
use Rattle.descriptions.proofs.index.Entries.{reached-fills, reached-same}

module _ (n : ℕ) (tags values tags' values' : List ℕ) (same : Same n tags values tags' values') (index : List ℕ) (s : Index tags values n index) where
  within-kept : (q : ℕ) → Within values n q → Within values' n q
  within-kept q w = record {
    before = w.before;
    fits = rw (same.values_same q w.before) w.fits;
    header = reached-same values values' n same.values_same w.header (omega (arith, w.before));
  }

  bucket-kept : (q : ℕ) → Within values n q → bucket_at tags' values' q ≡ bucket_at tags values q
  bucket-kept q w = rw (same.tags-same q w.before, cells_same n tags values tags' values' same q w.before w.fits)

  entry-most : (i : ℕ) → get_or index i 0 ≤ n
  entry-most i = below (get_or index i 0) refl
    where
      below : (c : ℕ) → get_or index i 0 ≡ c → c ≤ n
      below zero e = omega arith
      below (suc q) e = omega (arith, (s.entry i q e).before)

  holds_kept : (tag : ℕ) (cells : List ℕ) → look_up tags' values' index tag cells ≡ find tags' values' n tag cells
  unfolding look_up
  holds_kept tag cells =
      on_same index index (λ q. is_at tags values q tag cells) (λ q. is_at tags' values' q tag cells) n s.links-back (λ q l. refl)
      (λ i q e. at_same n tags values tags' values' same q (s.entry i q e).before (s.entry i q e).fits tag cells)
      (8192 + bucket_of tag cells) None (entry-most (8192 + bucket_of tag cells))
      ∙ s.holds tag cells
      ∙ sym (or_nothing (find tags values n tag cells))
      ∙ ap (or_else (find tags values n tag cells)) (first-end values' n (λ q. is_at tags' values' q tag cells) _ n refl (omega arith))
      ∙ sym (find-grown n tags values tags' values' same n tag cells (omega arith) (reached-fills values s.reached))

  pub index_kept : Index tags' values' n index
  index_kept = record {
    size = s.size;
    reached = reached-same values values' n same.values_same s.reached (omega arith);
    links-back = s.links-back;
    entry = λ i q e. within-kept q (s.entry i q e);
    link = λ i q l e. record {
      from = within-kept i (s.link i q l e).from;
      bucket = bucket-kept q (s.entry i q e) ∙ (s.link i q l e).bucket ∙ sym (bucket-kept i (s.link i q l e).from);
    };
    head = λ b q e. bucket-kept q (s.entry (8192 + b) q e) ∙ s.head b q e;
    holds = holds_kept;
  }
