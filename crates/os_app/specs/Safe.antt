-- The options' text that a job is solved with where the safe limit of turns is asked for.
use Rattle.std.specs.Prelude.{◌≡◌, ◌≢◌, ◌⊎◌, ℕ, Bool, true, false, Option, None, Some, List, length}
use Rattle.certificate.specs.declared.claims.Claim.{Claim}
use Rattle.branch_bound.specs.Claims.{claims_for}
use Rattle.instance.specs.Parts.{Parts}
use Rattle.osol_grammar.specs.declared.options.Options.{Options}
use Rattle.osol_grammar.specs.declared.fault.OsolFault.{OsolFault}
use Rattle.osol_grammar.specs.declared.fault.OsolFault.TheVariants as options_faults
use Rattle.osol_grammar.specs.Meaning.{IsOptionsText}
use Rattle.osol_grammar.specs.Reading as options
use Rattle.osol_grammar.specs.Writing.{options_text}
use Rattle.osil_grammar.specs.declared.fault.OsilFault.{OsilFault}
use Rattle.osil_grammar.specs.declared.fault.OsilFault.TheVariants as instance_faults
use Rattle.osil_grammar.specs.Reading.{IsInstanceText}
use Rattle.osil_grammar.specs.Reading as instances
use Rattle.no_cycles.specs.Limit.{safe_limit}
use Rattle.no_cycles.specs.Searches.{is_turn_limit}

-- the text of the options with the safe limit of the instance in place of their own
pub record IsSafeText (osil osol text : List ℕ) : Type 0 where
  pub options : Options
  pub said : IsOptionsText osol options
  pub parts : Parts
  pub instance : IsInstanceText osil parts
  pub limit : ℕ
  pub enough : safe_limit (length parts.vars) (length parts.rows) ≡ Some limit
  pub is : text ≡ options_text (record options { turns = limit })

-- the options or the instance are refused, or no limit is safe for it
pub data HasNoSafeText (osil osol : List ℕ) : Type 0 where
  no_options : (f : OsolFault) → f ≢ options_faults.Memory → options.DecodeFails osol f → HasNoSafeText osil osol
  no_instance : (f : OsilFault) → f ≢ instance_faults.Memory → instances.DecodeFails osil f → HasNoSafeText osil osol
  no_limit : (p : Parts) → IsInstanceText osil p → safe_limit (length p.vars) (length p.rows) ≡ None → HasNoSafeText osil osol

-- that text, or none
abbrev pub IsSafeOrNone : (osil osol : List ℕ) → Option (List ℕ) → Type 0
IsSafeOrNone osil osol None = HasNoSafeText osil osol
IsSafeOrNone osil osol (Some text) = IsSafeText osil osol text

-- the text that is taken: the options' own, or, where it is asked for and there is one, that with the safe limit
abbrev pub TakesOptions : (safe : Bool) → (osil osol taken : List ℕ) → Type 0
TakesOptions false osil osol taken = taken ≡ osol
TakesOptions true osil osol taken = IsSafeText osil osol taken ⊎ (HasNoSafeText osil osol × (taken ≡ osol))

-- the claim was given up at the limit of turns
abbrev pub claims_turn_limit : Claim → Bool
claims_turn_limit c = claims_for is_turn_limit c

-- and the report says so
abbrev pub says_turn_limit : Option Claim → Bool
says_turn_limit None = false
says_turn_limit (Some c) = claims_turn_limit c
