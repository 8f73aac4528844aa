-- Cases of the loading call, by computation: which entry a refusal names, and which refusal comes first.
-- Rests on TableAnswer, Table, and answers' Answer.
use Rattle.std.specs.Prelude.{◌≡◌, refl, [], ◌∷◌, ◌++◌, set}
use Rattle.answers.specs.Answer.{accepted, refused}
use Rattle.sort_table.specs.Table.{built_in}
use Rattle.sort_table.specs.TableAnswer.{table_answer, first_entry, forbids, is_connective, loses_bool}

-- the built-in table loads
pub built-in-loads : table_answer built_in ≡ accepted 0 0
unfolding table_answer first_entry forbids loses_bool is_connective built_in
built-in-loads = refl

-- 40 carries 135 for a wrong length, and no entry of such a table counts
pub no-entries : table_answer [] ≡ refused 40 135 0
unfolding table_answer
no-entries = refl

pub length-first : table_answer (8 ∷ []) ≡ refused 40 135 0
unfolding table_answer
length-first = refl

pub one-too-many : table_answer (built_in ++ (0 ∷ [])) ≡ refused 40 135 0
unfolding table_answer built_in
one-too-many = refl

-- a rule number over 7; 7 where the built-in table has it not; where it has it, any other
pub over-seven : table_answer (set built_in 134 8) ≡ refused 40 134 0
unfolding table_answer first_entry forbids loses_bool is_connective built_in
over-seven = refl

pub seven-elsewhere : table_answer (set built_in 17 7) ≡ refused 40 17 0
unfolding table_answer first_entry forbids loses_bool is_connective built_in
seven-elsewhere = refl

pub seven-replaced : table_answer (set built_in 10 1) ≡ accepted 0 0
unfolding table_answer first_entry forbids loses_bool is_connective built_in
seven-replaced = refl

-- 40 over the whole table before any 41
pub forty-first : table_answer (set (set built_in 2 1) 134 8) ≡ refused 40 134 0
unfolding table_answer first_entry forbids loses_bool is_connective built_in
forty-first = refl

pub seven-for-and : table_answer (set built_in 4 7) ≡ refused 40 4 0
unfolding table_answer first_entry forbids loses_bool is_connective built_in
seven-for-and = refl

-- the five operators; the first of them that isn't Bool; Xor is not among them
pub not_int : table_answer (set built_in 2 1) ≡ refused 41 2 0
unfolding table_answer first_entry forbids loses_bool is_connective built_in
not_int = refl

pub and-like-first : table_answer (set built_in 4 5) ≡ refused 41 4 0
unfolding table_answer first_entry forbids loses_bool is_connective built_in
and-like-first = refl

pub implies-before-equals : table_answer (set (set built_in 7 1) 3 1) ≡ refused 41 3 0
unfolding table_answer first_entry forbids loses_bool is_connective built_in
implies-before-equals = refl

pub equals-int : table_answer (set built_in 7 1) ≡ refused 41 7 0
unfolding table_answer first_entry forbids loses_bool is_connective built_in
equals-int = refl

pub xor-any : table_answer (set built_in 6 1) ≡ accepted 0 0
unfolding table_answer first_entry forbids loses_bool is_connective built_in
xor-any = refl
