-- Laws of the walkers that build the normal form of two operands.
-- Assumes nothing.
use Rattle.std.specs.Prelude.{Option, Some, None}
use Prim.Native.Nat.{ℕ, ◌≤◌}
use mathlib.Core.Path.{◌≡◌, refl}
use mathlib.Core.Bool.{Bool, true, false, not}
use mathlib.Core.List.{List, [], ◌∷◌}
use native.Mathlib.Omega.{arith}
use Rattle.cells.specs.declared.TermPlace.{TermPlace}
use Rattle.formulas.specs.Normal.{Normal, pair, flip}
use Rattle.formulas.specs.Built.{Placed, count, put, intern, interns}
use Rattle.formulas.specs.Formula.{connective_tag}
use Rattle.building.specs.Arrays.{pool_of}
use Rattle.building.specs.Walk.{Holds, Puts, Builds, normal, normal_of, entry_form, Formed, Known, two_pairs}
use Rattle.building.proofs.Interning.{becomes-longer, intern-becomes, put-becomes}
use Rattle.building.proofs.build.Building.{memo-stays, builds-full, builds-holds}
use Rattle.building.proofs.build.Walks.{form-same, then-builds, then-put}

-- ---- two operands
module _ (end n : ℕ) (tags values work : List ℕ) (f : Normal (List ℕ) ℕ) (r₁ : Option (TermPlace × ℕ)) (tags₁ values₁ work₁ : List ℕ)
    (b₁ : Formed normal end n tags values work f r₁ tags₁ values₁ work₁) (both : Bool) (g : Normal (List ℕ) ℕ) where
  abbrev o₁ : Placed
  o₁ = intern f (pool_of tags values n)

  abbrev o₂ : Placed
  o₂ = intern g o₁.pool

  put_last : count o₂.pool ≤ count (intern (pair both f g) (pool_of tags values n)).pool
  unfolding intern interns
  put_last = becomes-longer _ _ (put-becomes o₂.pool (connective_tag both) (0 ∷ o₁.place ∷ o₂.place ∷ []))

  left-full : r₁ ≡ None → Formed normal end n tags values work (pair both f g) None tags₁ values₁ work₁
  left-full e =
      builds-full (entry_form normal end tags values) end tags values work o₁ r₁ tags₁ values₁ work₁ b₁ e (intern (pair both f g) (pool_of tags values n))
      (omega (arith, put_last, becomes-longer _ _ (intern-becomes g o₁.pool)))

  module _ (p : TermPlace) (m : ℕ) (e₁ : r₁ ≡ Some (p, m)) (r₂ : Option (TermPlace × ℕ)) (tags₂ values₂ work₂ : List ℕ) (b₂ : Formed normal end m tags₁ values₁ work₁ g r₂ tags₂ values₂ work₂) where
    h₁ : Holds end o₁ p.0 m tags₁ values₁
    h₁ = builds-holds (entry_form normal end tags values) end tags values work o₁ r₁ tags₁ values₁ work₁ b₁ p m e₁

    second : Builds (entry_form normal end tags values) end tags values work o₂ r₂ tags₂ values₂ work₂
    second =
        rw (← h₁.pool-is) (then-builds normal end tags values work o₁ r₁ tags₁ values₁ work₁ b₁ p m e₁ (intern g (pool_of tags₁ values₁ m)) r₂ tags₂ values₂ work₂ b₂)

    right-full : r₂ ≡ None → Formed normal end n tags values work (pair both f g) None tags₂ values₂ work₂
    right-full e =
        builds-full (entry_form normal end tags values) end tags values work o₂ r₂ tags₂ values₂ work₂ second e (intern (pair both f g) (pool_of tags values n)) put_last

    both-put : (q : TermPlace) (l : ℕ) → r₂ ≡ Some (q, l) → (r₃ : Option (TermPlace × ℕ)) (tags₃ values₃ : List ℕ)
        → Puts l tags₂ values₂ (put (pool_of tags₂ values₂ l) (connective_tag both) (0 ∷ p.0 ∷ q.0 ∷ [])) r₃ tags₃ values₃
        → Formed normal end n tags values work (pair both f g) r₃ tags₃ values₃ work₂
    unfolding intern interns
    both-put q l e₂ r₃ tags₃ values₃ y =
        let h₂ = builds-holds (entry_form normal end tags values) end tags values work o₂ r₂ tags₂ values₂ work₂ second q l e₂ in
        rw (← h₁.place_is, ← h₂.place_is)
        (then-put normal end tags values work o₂ r₂ tags₂ values₂ work₂ second q l e₂ (connective_tag both) (0 ∷ p.0 ∷ q.0 ∷ []) r₃ tags₃ values₃ work₂ y (memo-stays work₂))

-- pair_of
module _ (end n : ℕ) (tags values work : List ℕ) (both : Bool) (a : ℕ) (a-polarity : Bool) (b : ℕ) (b-polarity : Bool)
    (r₁ : Option (TermPlace × ℕ)) (tags₁ values₁ work₁ : List ℕ) (j : Known normal end n tags values work a a-polarity r₁ tags₁ values₁ work₁) where
  abbrev f : Normal (List ℕ) ℕ
  f = normal_of end tags values a a-polarity

  abbrev g : Normal (List ℕ) ℕ
  g = normal_of end tags values b b-polarity

  pub pair-left-full : r₁ ≡ None → Formed normal end n tags values work (pair both (normal_of end tags values a a-polarity) (normal_of end tags values b b-polarity)) None tags₁ values₁ work₁
  pair-left-full e = left-full end n tags values work f r₁ tags₁ values₁ work₁ j.formed both g e

  module _ (p : TermPlace) (m : ℕ) (e₁ : r₁ ≡ Some (p, m)) (r₂ : Option (TermPlace × ℕ)) (tags₂ values₂ work₂ : List ℕ) (k : Known normal end m tags₁ values₁ work₁ b b-polarity r₂ tags₂ values₂ work₂) where
    b₂ : Formed normal end m tags₁ values₁ work₁ g r₂ tags₂ values₂ work₂
    b₂ = rw (form-same end tags values tags₁ values₁ j.formed.puts.left normal b b-polarity) at k.formed

    pub pair-right-full : r₂ ≡ None → Formed normal end n tags values work (pair both (normal_of end tags values a a-polarity) (normal_of end tags values b b-polarity)) None tags₂ values₂ work₂
    pair-right-full e = right-full end n tags values work f r₁ tags₁ values₁ work₁ j.formed both g p m e₁ r₂ tags₂ values₂ work₂ b₂ e

    pub pair_put : (q : TermPlace) (l : ℕ) → r₂ ≡ Some (q, l) → (r₃ : Option (TermPlace × ℕ)) (tags₃ values₃ : List ℕ)
        → Puts l tags₂ values₂ (put (pool_of tags₂ values₂ l) (connective_tag both) (0 ∷ p.0 ∷ q.0 ∷ [])) r₃ tags₃ values₃
        → Formed normal end n tags values work (pair both (normal_of end tags values a a-polarity) (normal_of end tags values b b-polarity)) r₃ tags₃ values₃ work₂
    pair_put q l e₂ r₃ tags₃ values₃ y =
        both-put end n tags values work f r₁ tags₁ values₁ work₁ j.formed both g p m e₁ r₂ tags₂ values₂ work₂ b₂ q l e₂ r₃ tags₃ values₃ y

-- two_pairs
module _ (end n : ℕ) (tags values work : List ℕ) (polarity : Bool) (a b c : ℕ) (c-polarity : Bool) (d : ℕ) (r₁ : Option (TermPlace × ℕ)) (tags₁ values₁ work₁ : List ℕ)
    (b₁ : Formed normal end n tags values work (pair (not polarity) (normal_of end tags values a (not polarity)) (normal_of end tags values b polarity)) r₁ tags₁ values₁ work₁) where
  abbrev one : Normal (List ℕ) ℕ
  one = pair (not polarity) (normal_of end tags values a (not polarity)) (normal_of end tags values b polarity)

  abbrev two : Normal (List ℕ) ℕ
  two = pair (not polarity) (normal_of end tags values c c-polarity) (normal_of end tags values d polarity)

  pub two-left-full : r₁ ≡ None → Formed normal end n tags values work (two_pairs polarity (λ t p. normal_of end tags values t p) a b c c-polarity d) None tags₁ values₁ work₁
  two-left-full e = left-full end n tags values work one r₁ tags₁ values₁ work₁ b₁ polarity two e

  module _ (p : TermPlace) (m : ℕ) (e₁ : r₁ ≡ Some (p, m)) (r₂ : Option (TermPlace × ℕ)) (tags₂ values₂ work₂ : List ℕ)
      (b₂ : Formed normal end m tags₁ values₁ work₁ (pair (not polarity) (normal_of end tags₁ values₁ c c-polarity) (normal_of end tags₁ values₁ d polarity)) r₂ tags₂ values₂ work₂) where
    same₂ : Formed normal end m tags₁ values₁ work₁ two r₂ tags₂ values₂ work₂
    same₂ = rw (form-same end tags values tags₁ values₁ b₁.puts.left normal c c-polarity, form-same end tags values tags₁ values₁ b₁.puts.left normal d polarity) at b₂

    pub two-right-full : r₂ ≡ None → Formed normal end n tags values work (two_pairs polarity (λ t p. normal_of end tags values t p) a b c c-polarity d) None tags₂ values₂ work₂
    two-right-full e = right-full end n tags values work one r₁ tags₁ values₁ work₁ b₁ polarity two p m e₁ r₂ tags₂ values₂ work₂ same₂ e

    pub two-put : (q : TermPlace) (l : ℕ) → r₂ ≡ Some (q, l) → (r₃ : Option (TermPlace × ℕ)) (tags₃ values₃ : List ℕ)
        → Puts l tags₂ values₂ (put (pool_of tags₂ values₂ l) (connective_tag polarity) (0 ∷ p.0 ∷ q.0 ∷ [])) r₃ tags₃ values₃
        → Formed normal end n tags values work (two_pairs polarity (λ t p. normal_of end tags values t p) a b c c-polarity d) r₃ tags₃ values₃ work₂
    two-put q l e₂ r₃ tags₃ values₃ y =
        both-put end n tags values work one r₁ tags₁ values₁ work₁ b₁ polarity two p m e₁ r₂ tags₂ values₂ work₂ same₂ q l e₂ r₃ tags₃ values₃ y

-- ---- the kinds of a pair
pub or-at : (p : Bool) → flip false p ≡ not p
or-at true = refl
or-at false = refl

pub and-at : (p : Bool) → flip true p ≡ p
and-at true = refl
and-at false = refl
