-- What a call that builds writes back is what its definition leaves: from `array_left` on the first cells to `array_left` on the whole array.
--     Goes              an accepted call: the pool that was built goes on from the cells below n, and fits the first cells
--     tags-after-is, values-after-is     the arrays after the call
--     array-left-length     the call keeps the length of what it was lent
-- Assumes nothing.
use Prim.Native.Nat.{ℕ, ◌+◌, ◌-◌, ◌≤◌}
use mathlib.Core.Path.{◌≡◌, ap, ◌∙◌}
use mathlib.Core.List.{List, ◌++◌, append_assoc}
use lib.ListN.{length, take, drop, replicate, length-append, length-replicate, replicate-append-replicate, take-append-drop}
use lib.Seq.{length-take-le, take_at, drop_at, take-append-le, drop-append-le}
use lib.Dec.{eqb}
use native.Mathlib.Omega.{arith}
use borrow.Author.Tests.{eqb-true, eqb-false, ne_eqb}
use Rattle.cells.specs.ByPlace.{by-test}
use Rattle.descriptions.specs.Description.{zero_from}
use Rattle.formulas.specs.ClauseLists.{padded}
use Rattle.answers.specs.declared.Answer.{Answer}
use Rattle.normal_form.specs.Calls.{array_left}
use Rattle.normal_form.proofs.Accepted.{padded-length}
use Rattle.tag_layouts.specs.WrittenBack.{written_back, tags_after, values_after}

-- the rest of an array of m cells, and zeroes up to k
pub zeroes : (a m k u : ℕ) → u ≤ m → m ≤ k → replicate (m - u) a ++ replicate (k - m) a ≡ replicate (k - u) a
zeroes a m k u h l =
    let z : m - u + (k - m) ≡ k - u = omega arith in
    replicate-append-replicate (m - u) (k - m) a ∙ ap (λ (x : ℕ). replicate x a) z

pub zero-length : (n : ℕ) (cells : List ℕ) → n ≤ length cells → length (zero_from n cells) ≡ length cells
unfolding zero_from
zero-length n cells h =
    length-append (take n cells) (replicate (length cells - n) 0) ∙ rw (length-take-le n cells h, length-replicate) (omega arith)

-- part is what the call on bytes was lent, of an array of at least as many cells
module _ (n : ℕ) (cells part : List ℕ) (h : n ≤ length part) (l : length part ≤ length cells) where
  back-zero : written_back n cells (zero_from n part) ≡ zero_from n cells
  unfolding written_back zero_from
  back-zero =
      rw (
        zero-length n part h,
        drop_at (take n part) (replicate (length part - n) 0) n (length-take-le n part h),
        zeroes 0 (length part) (length cells) n h l,
      )

  back-padded : (used : List ℕ) → take n used ≡ take n cells → n ≤ length used → length used ≤ length part
      → written_back n cells (padded used (length part)) ≡ padded used (length cells)
  unfolding written_back padded
  back-padded used same low high =
      rw (
        padded-length used (length part) high,
        drop-append-le n used (replicate (length part - length used) 0) low,
        append_assoc (drop n used) (replicate (length part - length used) 0) (replicate (length cells - length part) 0),
        zeroes 0 (length part) (length cells) (length used) high l,
        ← same,
        ← append_assoc (take n used) (drop n used) (replicate (length cells - length used) 0),
        take-append-drop n used,
      )

-- used are the cells of the pool that was built, and used₀ those by the definition on what was lent
pub record Goes (n : ℕ) (cells part used used₀ : List ℕ) : Type 0 where
  pub is : used₀ ≡ used
  pub same : take n used ≡ take n cells
  pub low : n ≤ length used
  pub high : length used ≤ length part

pub array-left-length : (r : Answer) (n : ℕ) (part used : List ℕ) → ((r.code ≡ 30 → ⊥) → n ≤ length part) → (r.code ≡ 0 → length used ≤ length part)
    → length (array_left r part n used) ≡ length part
unfolding array_left
array-left-length r n part used within fit =
    by-test (eqb r.code 30) (λ e. rw e)
    (λ e. by-test (eqb r.code 0)
    (λ o. rw (e, o) (padded-length used (length part) (fit (eqb-true _ 0 o))))
    (λ o. rw (e, o) (zero-length n part (within (eqb-false _ 30 e)))))

-- values whose cells below n were kept are as if they had been copied
same_after : (r : Answer) (n : ℕ) (cells left : List ℕ) → ((r.code ≡ 30 → ⊥) → take n left ≡ take n cells) → values_after r cells left ≡ tags_after r n cells left
unfolding tags_after values_after written_back
same_after r n cells left same =
    by-test (eqb r.code 30) (λ e. rw e)
    (λ e. rw (
      e,
      ← same (eqb-false _ 30 e),
      ← append_assoc (take n left) (drop n left) (replicate (length cells - length left) 0),
      take-append-drop n left,
    ))

module _ (r : Answer) (n : ℕ) (cells part used used₀ : List ℕ) (l : length part ≤ length cells) (ok : r.code ≡ 0 → Goes n cells part used used₀) where
  pub tags-after-is : ((r.code ≡ 30 → ⊥) → n ≤ length part) → tags_after r n cells (array_left r part n used₀) ≡ array_left r cells n used
  unfolding tags_after array_left
  tags-after-is within =
      by-test (eqb r.code 30) (λ e. rw e)
      (λ e.
      let h : n ≤ length part = within (eqb-false _ 30 e) in
      by-test (eqb r.code 0)
      (λ o. let u = ok (eqb-true _ 0 o) in rw (e, o, u.is) (back-padded n cells part h l used u.same u.low u.high))
      (λ o. rw (e, o) (back-zero n cells part h l)))

  -- ---- where the first cells themselves were lent
  module _ (within : (r.code ≡ 30 → ⊥) → (n ≤ length part) × (take n part ≡ take n cells)) where
    front : (r.code ≡ 30 → ⊥) → take n (array_left r part n used₀) ≡ take n cells
    unfolding array_left padded zero_from
    front not-30 =
        let (h, e) = within not-30 in
        rw (ne_eqb r.code 30 not-30)
        (by-test (eqb r.code 0)
        (λ o. let u = ok (eqb-true _ 0 o) in rw (o, u.is) (take-append-le n used _ u.low ∙ u.same))
        (λ o. rw o (take_at (take n part) _ n (length-take-le n part h) ∙ e)))

    pub values-after-is : values_after r cells (array_left r part n used₀) ≡ array_left r cells n used
    values-after-is = same_after r n cells (array_left r part n used₀) front ∙ tags-after-is (λ h. (within h).0)
