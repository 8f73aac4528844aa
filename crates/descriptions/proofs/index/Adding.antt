-- Adding with the index: the answers, and the index of the grown pool.
-- Assumes nothing.
use Rattle.std.specs.Prelude.{Option, Some, None}
use Prim.Native.Nat.{ℕ, ◌+◌, ◌<◌}
use mathlib.Core.Path.{◌≡◌, ◌∙◌}
use mathlib.Core.Bool.{Bool, true, false}
use mathlib.Core.List.{List, ◌∷◌}
use lib.ListN.{length, get_or, replicate}
use lib.Seq.{sets}
use native.Mathlib.Omega.{arith}
use Rattle.cells.specs.Cell.{is_at}
use Rattle.descriptions.specs.Description.{find, is_full, Added-is, Room, Put}
use Rattle.descriptions.specs.Index.{bucket_of, head_of, on_chain, look_up, Index, entered}
use Rattle.descriptions.proofs.description.Laws.{has_room, in-limit, add-there, add-full, add-new}
use Rattle.descriptions.proofs.description.Growth.{at_same, put_same, put_count, put-tag, put-cells}
use Rattle.descriptions.proofs.index.Entries.{enter-index}

pub below-limit : (tags values : List ℕ) (n k : ℕ) (full : Bool) → full ≡ is_full tags values 8192 n k → full ≡ false → n < 8192
below-limit tags values n k full is e = omega (arith, in-limit tags values 8192 n k full is e)

-- f is what the bucket b of the description has
module _ (tags values : List ℕ) (n : ℕ) (index : List ℕ) (s : Index tags values n index) (tag : ℕ) (cells : List ℕ) (b : ℕ) (is : b ≡ bucket_of tag cells)
    (f : Option ℕ) (looked : f ≡ on_chain index (λ q. is_at tags values q tag cells) (head_of index b) None) where
  pub found : f ≡ find tags values n tag cells
  unfolding look_up
  found = looked ∙ rw is (s.holds tag cells)

  pub index-there : (p : ℕ) → f ≡ Some p → Added-is tags values 8192 n tag cells (Some p) n tags values
  index-there p e = add-there tags values 8192 n tag cells f found p e

  module _ (e : f ≡ None) (full : Bool) (room : full ≡ is_full tags values 8192 n (length cells)) where
    pub index-full : full ≡ true → Added-is tags values 8192 n tag cells None n tags values
    index-full y = add-full tags values 8192 n tag cells f found e full room y

    module _ (y : full ≡ false) where
      room-left : Room tags values n (length cells)
      room-left = has_room tags values 8192 n (length cells) full room y

      place-left : n < 8192
      place-left = below-limit tags values n (length cells) full room y

      module _ (end : ℕ) (q : end ≡ n + 1 + length cells) (tags' values' : List ℕ)
          (p : Put tags values n (tag ∷ replicate (length cells) 0) (length cells ∷ cells) tags' values') where
        pub index-new : Added-is tags values 8192 n tag cells (Some n) end tags' values'
        index-new = add-new tags values 8192 n tag cells f found e full room y end q tags' values' p

        pub index-grown : b < 4093 → (index' : List ℕ) → index' ≡ entered index n b → Index tags' values' end index'
        index-grown small index' a =
            let tags⁺ : List ℕ = sets tags n (tag ∷ replicate (length cells) 0) in
            let values⁺ : List ℕ = sets values n (length cells ∷ cells) in
            let z : n + (1 + get_or values⁺ n 0) ≡ n + 1 + length cells = omega (arith, put_count tags values n tag cells room-left) in
            rw (q, a, p.tags-are, p.values-are)
            (rw z at (enter-index tags values n index s place-left tags⁺ values⁺
            (put_same tags values n tag cells room-left).values_same
            (λ u l k. at_same n tags values tags⁺ values⁺ (put_same tags values n tag cells room-left) u l k)
            b small (rw (put-tag tags values n tag cells room-left, put-cells tags values n tag cells room-left) is)))

pub ruleset adds = (index-there, index-full, index-new, index-grown)
