-- Laws of the whole clause list: the arrays hold the clauses before i, and zeroes.
-- Assumes nothing.
use Prim.Native.Nat.{ℕ, zero, suc, ◌+◌, ◌-◌, ◌≤◌, ◌<◌, min}
use mathlib.Core.Path.{◌≡◌, refl, sym, ap, ap₂, ◌∙◌}
use mathlib.Core.Bool.{Bool, true, false}
use mathlib.Core.List.{List, [], ◌∷◌, ◌++◌, append_assoc, append-nil}
use lib.ListN.{length, get_or, take, set, replicate, length-set, length-append, length-replicate}
use lib.Seq.{sets, length-sets, take-suc, append_snoc, set-append_seam, length-take-le}
use lib.Dec.{eqb}
use native.Mathlib.Omega.{arith}
use native.Mathlib.Numerals.{add-one}
use borrow.Author.Tests.{le-leb, lt-leb}
use Rattle.formulas.specs.Built.{form_at}
use Rattle.descriptions.specs.Description.{zero_from, Cut}
use Rattle.answers.specs.Answer.{accepted}
use Rattle.answers.specs.declared.Answer.{Answer}
use Rattle.clauses.specs.declared.totals.Totals as code
use Rattle.formulas.specs.Normal.{Normal}
use Rattle.formulas.specs.Clauses.{cnf, literal_total, empty_or}
use Rattle.formulas.specs.ClauseLists.{empty_or_reached, too_many_clauses, padded, clause_places, literal_places, clause_ends}
use Rattle.clauses.specs.ClauseWalk.{TermCounted}
use Rattle.clauses.specs.ClauseList.{Ask, Written, AskMore, Lent, count_answer, list_answer, held, ListAnswered, ListReady, ClausesHeld}
use Rattle.clauses.proofs.totals.Laws.{clauses-cut, literals-cut}
use Rattle.clauses.proofs.conjunctive_normal_form.Laws.{places-length, counts-one}

-- ---- a padded array
module _ (k : ℕ) where
  padded-none : replicate k 0 ≡ padded [] k
  unfolding padded
  padded-none = let z : k ≡ k - 0 = omega arith in ap (λ (n : ℕ). replicate {A = ℕ} n 0) z

  set-padded : (ps : List ℕ) (a : ℕ) → length ps < k → set (padded ps k) (length ps) a ≡ padded (ps ++ (a ∷ [])) k
  unfolding padded
  set-padded ps a h =
      let one : k - length ps ≡ suc (k - suc (length ps)) = omega arith in
      let more : length (ps ++ (a ∷ [])) ≡ suc (length ps) = length-append ps (a ∷ []) ∙ omega arith in
      ap (λ (n : ℕ). set (ps ++ replicate n 0) (length ps) a) one
      ∙ (set-append_seam ps 0 (replicate (k - suc (length ps)) 0) a
      ∙ (sym (append_snoc ps a (replicate (k - suc (length ps)) 0))
      ∙ ap (λ (n : ℕ). (ps ++ (a ∷ [])) ++ replicate (k - n) 0) (sym more)))

  sets-padded : (qs ps : List ℕ) (at : ℕ) → at ≡ length ps → at + length qs ≤ k → sets (padded ps k) at qs ≡ padded (ps ++ qs) k
  sets-padded [] ps at e h = ap (λ (l : List ℕ). padded l k) (sym (append-nil ps))
  sets-padded (q ∷ qs) ps at e h =
      let more : suc at ≡ length (ps ++ (q ∷ [])) = rw (length-append ps (q ∷ [])) (omega arith) in
      let here : set (padded ps k) at q ≡ padded (ps ++ (q ∷ [])) k = rw e (set-padded ps q (omega arith)) in
      ap (λ (l : List ℕ). sets l (suc at) qs) here
      ∙ (sets-padded qs (ps ++ (q ∷ [])) (suc at) more (omega arith) ∙ ap (λ (l : List ℕ). padded l k) (append_snoc ps q qs))

  sets-zeros : (qs : List ℕ) → length qs ≤ k → sets (replicate k 0) 0 qs ≡ padded qs k
  sets-zeros qs h = ap (λ (l : List ℕ). sets l 0 qs) padded-none ∙ sets-padded qs [] 0 refl (omega arith)

-- ---- one clause more
abbrev pub Clauses : Type 0
Clauses = List (List (Normal (List ℕ) ℕ))

module _ (c : List (Normal (List ℕ) ℕ)) where
  total-more : (cs : Clauses) → literal_total (cs ++ (c ∷ [])) ≡ literal_total cs + length c
  total-more [] = omega arith
  total-more (d ∷ cs) = rw (total-more cs) (omega arith)

  places-more : (cs : Clauses) → literal_places (cs ++ (c ∷ [])) ≡ literal_places cs ++ clause_places c
  places-more [] = append-nil (clause_places c)
  places-more (d ∷ cs) = rw (places-more cs) (sym (append_assoc (clause_places d) (literal_places cs) (clause_places c)))

  ends_more : (m : ℕ) (cs : Clauses) → clause_ends m (cs ++ (c ∷ [])) ≡ clause_ends m cs ++ ((m + literal_total cs + length c) ∷ [])
  ends_more m [] = let z : m + length c ≡ m + 0 + length c = omega arith in ap (λ (n : ℕ). n ∷ []) z
  ends_more m (d ∷ cs) =
      let z : m + length d + literal_total cs + length c ≡ m + (length d + literal_total cs) + length c = omega arith in
      ap (λ (l : List ℕ). (m + length d) ∷ l) (ends_more (m + length d) cs ∙ ap (λ (n : ℕ). clause_ends (m + length d) cs ++ (n ∷ [])) z)

pub places-total : (cs : Clauses) → length (literal_places cs) ≡ literal_total cs
places-total [] = refl
places-total (c ∷ cs) = length-append (clause_places c) (literal_places cs) ∙ ap₂ (λ (a b : ℕ). a + b) (places-length c) (places-total cs)

pub ends-length : (m : ℕ) (cs : Clauses) → length (clause_ends m cs) ≡ length cs
ends-length m [] = refl
ends-length m (c ∷ cs) = ap suc (ends-length (m + length c) cs)

total-before : (cs : Clauses) (i : ℕ) → i < length cs → literal_total (take i cs) + length (get_or cs i []) ≤ literal_total cs
total-before [] i h = absurd (omega arith)
total-before (c ∷ cs) zero h = omega arith
total-before (c ∷ cs) (suc i) h = omega (arith, total-before cs i (omega arith))

-- ---- stores one after another
pub sets-join : (xs ys l : List ℕ) (i : ℕ) → sets (sets l i xs) (i + length xs) ys ≡ sets l i (xs ++ ys)
sets-join [] ys l i = let z : i + 0 ≡ i = omega arith in ap (λ (n : ℕ). sets l n ys) z
sets-join (x ∷ xs) ys l i =
    let z : i + suc (length xs) ≡ suc i + length xs = omega arith in
    ap (λ (n : ℕ). sets (sets (set l i x) (suc i) xs) n ys) z ∙ sets-join xs ys (set l i x) (suc i)

-- ---- the loop: the first k clauses are written, up to i and at
pub record Wrote (cs : Clauses) (literals₀ ends₀ : List ℕ) (i₀ at₀ : ℕ) (literals ends : List ℕ) (k i at : ℕ) : Type 0 where
  pub within : k ≤ length cs
  pub i-is : i ≡ i₀ + k
  pub at-is : at ≡ at₀ + literal_total (take k cs)
  pub literals-are : literals ≡ sets literals₀ at₀ (literal_places (take k cs))
  pub ends-are : ends ≡ sets ends₀ i₀ (clause_ends at₀ (take k cs))
  pub literals-size : length literals ≡ length literals₀
  pub ends-size : length ends ≡ length ends₀

module _ (tags values memo : List ℕ) (x : ℕ) (literals₀ ends₀ : List ℕ) (i₀ at₀ : ℕ)
    (ask : AskMore tags values memo (x ∷ []) (cnf (form_at tags values x)) literals₀ ends₀ i₀ at₀) where
  abbrev list : Clauses
  list = cnf (form_at tags values x)

  module _ (total : ℕ) (all : total ≡ length (cnf (form_at tags values x))) (literals ends : List ℕ) (k i at : ℕ)
      (w : Wrote (cnf (form_at tags values x)) literals₀ ends₀ i₀ at₀ literals ends k i at)
      (h : k < total) where
    inside : k < length list
    inside = omega (arith, all)

    pub wrote-ask : Ask tags values memo (x ∷ []) (cnf (form_at tags values x)) k literals at
    wrote-ask = record {
      counted = ask.counted;
      small = ask.clauses;
      index = inside;
      room = omega (arith, total-before list k inside, w.at-is, w.literals-size, ask.literals_room);
    }

    pub wrote-ends : i < length ends
    wrote-ends = omega (arith, inside, w.i-is, w.ends-size, ask.clauses-room)

    pub wrote-small : at + length (get_or (cnf (form_at tags values x)) k []) ≤ 8192
    wrote-small = omega (arith, total-before list k inside, w.at-is, ask.literals-small)

    module _ (after : List ℕ) (r : ℕ) (p : Written (get_or (cnf (form_at tags values x)) k []) literals at after r) where
      more : take (k + 1) list ≡ take k list ++ (get_or list k [] ∷ [])
      more = ap (λ (n : ℕ). take n list) (add-one k) ∙ take-suc list k [] inside

      end_is : at₀ + literal_total (take k list) + length (get_or list k []) ≡ r
      end_is = omega (arith, p.end, w.at-is)

      literals-next : after ≡ sets literals₀ at₀ (literal_places (take (k + 1) list))
      literals-next =
          let z : at ≡ at₀ + length (literal_places (take k list)) = w.at-is ∙ ap (λ (n : ℕ). at₀ + n) (sym (places-total (take k list))) in
          p.array
          ∙ (ap₂ (λ (l : List ℕ) (n : ℕ). sets l n (clause_places (get_or list k []))) w.literals-are z
          ∙ (sets-join (literal_places (take k list)) (clause_places (get_or list k [])) literals₀ at₀
          ∙ ap (λ (l : List ℕ). sets literals₀ at₀ l) (sym (ap literal_places more ∙ places-more (get_or list k []) (take k list)))))

      ends_next : set ends i r ≡ sets ends₀ i₀ (clause_ends at₀ (take (k + 1) list))
      ends_next =
          let z : i ≡ i₀ + length (clause_ends at₀ (take k list)) =
          w.i-is ∙ ap (λ (n : ℕ). i₀ + n) (sym (ends-length at₀ (take k list) ∙ length-take-le k list w.within)) in
          ap₂ (λ (l : List ℕ) (n : ℕ). sets l n (r ∷ [])) w.ends-are z
          ∙ (sets-join (clause_ends at₀ (take k list)) (r ∷ []) ends₀ i₀
          ∙ ap (λ (l : List ℕ). sets ends₀ i₀ l)
          (sym (ap (clause_ends at₀) more
          ∙ (ends_more (get_or list k []) at₀ (take k list) ∙ ap (λ (n : ℕ). clause_ends at₀ (take k list) ++ (n ∷ [])) end_is))))

      pub wrote-next : (ends' : List ℕ) → ends' ≡ set ends i r → (i' : ℕ) → i' ≡ i + 1 → Wrote (cnf (form_at tags values x)) literals₀ ends₀ i₀ at₀ after ends' (k + 1) i' r
      wrote-next ends' e i' n = record {
        within = omega (arith, inside);
        i-is = omega (arith, n, w.i-is);
        at-is = sym (ap (λ (l : Clauses). at₀ + literal_total l) more ∙ (ap (λ (n : ℕ). at₀ + n) (total-more (get_or list k []) (take k list)) ∙ omega (arith, end_is)));
        literals-are = literals-next;
        ends-are = e ∙ ends_next;
        literals-size = ap length p.array ∙ (length-sets literals at (clause_places (get_or list k [])) ∙ w.literals-size);
        ends-size = ap length e ∙ (length-set ends i r ∙ w.ends-size);
      }

-- ---- the answers
pub zero-all : (l : List ℕ) → zero_from 0 l ≡ replicate (length l) 0
unfolding zero_from
zero-all l = let z : length l - 0 ≡ length l = omega arith in ap (λ (n : ℕ). replicate {A = ℕ} n 0) z

-- a refusal of code 13 or 32 leaves zeroes
refused : (defined : Answer) (cs : Clauses) (k m : ℕ) (r : Answer) (literals ends : List ℕ) → r ≡ defined → eqb r.code 0 ≡ false
    → literals ≡ replicate k 0 → ends ≡ replicate m 0 → ListAnswered defined cs k m r literals ends
unfolding held
refused defined cs k m r literals ends e n p q = record { answer = e; literals-are = rw n p; ends-are = rw n q }

module _ (tags values : List ℕ) (x : ℕ) (literals ends : List ℕ) (ready : ListReady tags literals ends)
    (memo₀ memo : List ℕ) (t : code.Totals) (is : TermCounted tags values x memo₀ memo t) where
  clauses-are-cut : t.clauses ≡ min 8193 (length (cnf (form_at tags values x)))
  clauses-are-cut = clauses-cut tags values x t is.is

  literals-are-cut : t.literals ≡ min 8193 (literal_total (cnf (form_at tags values x)))
  literals-are-cut = literals-cut tags values x t is.is

  pub many-clauses : 2048 < t.clauses
      → ListAnswered (count_answer (cnf (form_at tags values x))) (cnf (form_at tags values x)) (length literals) (length ends) too_many_clauses literals ends
  unfolding count_answer
  many-clauses h =
      refused _ _ _ _ _ _ _ (rw (lt-leb (length (cnf (form_at tags values x))) 2048 (omega (arith, clauses-are-cut)))) refl ready.literals-zero ready.ends-zero

  module _ (h : t.clauses ≤ 2048) where
    clauses-are : t.clauses ≡ length (cnf (form_at tags values x))
    clauses-are = omega (arith, clauses-are-cut)

    pub many-literals : 8192 < t.literals
        → ListAnswered (count_answer (cnf (form_at tags values x))) (cnf (form_at tags values x)) (length literals) (length ends) too_many_clauses literals ends
    unfolding count_answer
    many-literals g =
        refused _ _ _ _ _ _ _
        (rw (le-leb (length (cnf (form_at tags values x))) 2048 (omega (arith, clauses-are)), lt-leb (literal_total (cnf (form_at tags values x))) 8192 (omega (arith, literals-are-cut))))
        refl ready.literals-zero ready.ends-zero

    module _ (g : t.literals ≤ 8192) where
      literals-are : t.literals ≡ literal_total (cnf (form_at tags values x))
      literals-are = omega (arith, literals-are-cut)

      pub fits-ask : AskMore tags values memo (x ∷ []) (cnf (form_at tags values x)) literals ends 0 0
      fits-ask = record {
        counted = counts-one tags values memo x is.right is.here;
        clauses = omega (arith, clauses-are);
        clauses-room = omega (arith, clauses-are, ready.lent.ends);
        literals-small = omega (arith, literals-are);
        literals_room = omega (arith, literals-are, ready.lent.literals);
      }

      module _ (literals' ends' : List ℕ) (p : literals' ≡ sets literals 0 (literal_places (cnf (form_at tags values x))))
          (q : ends' ≡ sets ends 0 (clause_ends 0 (cnf (form_at tags values x)))) where
        listed : ClausesHeld (cnf (form_at tags values x)) (length literals) (length ends) literals' ends'
        listed = record {
          literals-are = p
              ∙ (ap (λ (l : List ℕ). sets l 0 (literal_places (cnf (form_at tags values x)))) ready.literals-zero
              ∙ sets-zeros (length literals) (literal_places (cnf (form_at tags values x)))
              (omega (arith, places-total (cnf (form_at tags values x)), literals-are, ready.lent.literals)));
          ends-are = q
              ∙ (ap (λ (l : List ℕ). sets l 0 (clause_ends 0 (cnf (form_at tags values x)))) ready.ends-zero
              ∙ sets-zeros (length ends) (clause_ends 0 (cnf (form_at tags values x)))
              (omega (arith, ends-length 0 (cnf (form_at tags values x)), clauses-are, ready.lent.ends)));
        }

        pub fits-answer : ListAnswered (count_answer (cnf (form_at tags values x))) (cnf (form_at tags values x)) (length literals) (length ends)
            (accepted t.clauses t.literals) literals' ends'
        unfolding count_answer held
        fits-answer = record {
          answer = rw (
            le-leb (length (cnf (form_at tags values x))) 2048 (omega (arith, clauses-are)),
            le-leb (literal_total (cnf (form_at tags values x))) 8192 (omega (arith, literals-are)),
            ← clauses-are,
            ← literals-are,
          );
          literals-are = listed.literals-are;
          ends-are = listed.ends-are;
        }

module _ (literals₀ ends₀ literals ends : List ℕ) (cut : Cut 0 literals₀ ends₀ literals ends) where
  size-literals : length literals ≡ length literals₀
  size-literals = ap length (cut.tags-are ∙ zero-all literals₀) ∙ length-replicate {A = ℕ} (length literals₀) 0

  size-ends : length ends ≡ length ends₀
  size-ends = ap length (cut.values-are ∙ zero-all ends₀) ∙ length-replicate {A = ℕ} (length ends₀) 0

  pub list-ready : (tags : List ℕ) → Lent (length tags) (length literals₀) (length ends₀) → ListReady tags literals ends
  list-ready tags lent = record {
    lent = rw (size-literals, size-ends) lent;
    literals-zero = rw size-literals (cut.tags-are ∙ zero-all literals₀);
    ends-zero = rw size-ends (cut.values-are ∙ zero-all ends₀);
  }

  module _ (tags values : List ℕ) (x : ℕ) (b : Bool) (is : b ≡ empty_or (form_at tags values x)) where
    pub empty-answer : b ≡ true
        → ListAnswered (list_answer (form_at tags values x)) (cnf (form_at tags values x)) (length literals₀) (length ends₀) empty_or_reached literals ends
    unfolding list_answer
    empty-answer e = refused _ _ _ _ _ _ _ (rw (← is, e)) refl (cut.tags-are ∙ zero-all literals₀) (cut.values-are ∙ zero-all ends₀)

    pub list-answer : b ≡ false → (r : Answer) (literals' ends' : List ℕ)
        → ListAnswered (count_answer (cnf (form_at tags values x))) (cnf (form_at tags values x)) (length literals) (length ends) r literals' ends'
        → ListAnswered (list_answer (form_at tags values x)) (cnf (form_at tags values x)) (length literals₀) (length ends₀) r literals' ends'
    unfolding list_answer
    list-answer e r literals' ends' a = record {
      answer = rw (← is, e) a.answer;
      literals-are = rw size-literals at a.literals-are;
      ends-are = rw size-ends at a.ends-are;
    }

pub ruleset list-answers = (empty-answer, list-answer)
