-- The rules as the code names them. 01, "The six rules, with codes".
-- Rests on Step and the enum `Rule`.
use Rattle.std.specs.Prelude.{ℕ, ◌≡◌, false, Option, Some, None}
use Rattle.rules.specs.Step.{is_rule}
use Rattle.rules.specs.declared.rule.Rule.{Rule}
use Rattle.rules.specs.declared.rule.Rule.TheVariants.{Join, RmUnused, Cnf, Distribute, Split, Ite}

abbrev pub code_of : Rule → ℕ
code_of Join = 1
code_of RmUnused = 2
code_of Cnf = 3
code_of Distribute = 4
code_of Split = 5
code_of Ite = 6

-- the rule of a code, if it is a rule's
abbrev pub RuleOf : ℕ → Option Rule → Type 0
RuleOf code (Some rule) = code ≡ code_of rule
RuleOf code None = is_rule code ≡ false
