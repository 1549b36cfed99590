-- What it means that a call does what a plan says.
use Rattle.std.specs.Prelude.{◌≡◌, ◌≢◌, Bool, true, false, Result, Ok, Err}
use Rattle.sspi_types.specs.declared.error.Error.{Error}
use Rattle.sspi_types.specs.declared.error_kind.ErrorKind.TheVariants.{InsufficientMemory}
use Rattle.sspi_mech.specs.declared.step.Answer.{Answer}
use Rattle.sspi_mech.specs.declared.step.Answer.TheVariants.{Done, Ask, Refused}
use Rattle.sspi_mech.specs.declared.step.Step.{Step}
use Rattle.sspi_mech.specs.Context.{NeitherSealsNorOpens}
use Rattle.sspi_mech.specs.Meaning.{Meaning}
use Rattle.sspi_mech.specs.Settings.{Setting}
use Rattle.sspi_negotiate.specs.declared.protocol.NegotiatedProtocol.{NegotiatedProtocol}
use Rattle.sspi_negotiate.specs.declared.state.Role.TheVariants.{Client}
use Rattle.sspi_negotiate.specs.Follows.{Follows}
use Rattle.sspi_negotiate.specs.Hand.{Origin, hand}
use Rattle.sspi_negotiate.specs.Keeps.{KeepsPackages, is_opening}
use Rattle.sspi_negotiate.specs.Plan.{Plan}
use Rattle.sspi_negotiate.specs.Reaches.{Reaches}
use Rattle.sspi_negotiate.specs.Values.{Values, Negotiation, values_of}
use Rattle.sspi_negotiate.specs.Verified.{HasNoMic}

-- a fact, except after a refusal when out of memory, which can happen at any time
abbrev pub UnlessMemory : Answer → Type 0 → Type 0
UnlessMemory (Done step) P = P
UnlessMemory (Ask request) P = P
UnlessMemory (Refused error) P = error.error_type ≢ InsufficientMemory → P

-- what a server's step answered
abbrev pub told : Result Step Error → Answer
told (Ok step) = Done step
told (Err error) = Refused error

-- The plan is followed to its end, unless running out of memory breaks it off. Even then the
-- selected mechanism is the one from before, or what the first calls of the plan made of it.
pub record Meets {M : Type 0} (c : Meaning Origin M) (p : Plan) (m : M) (r : Answer) (v2 : Values)
    (m2 : M) : Type 0 where
  pub as_planned : UnlessMemory r (Follows c p m r v2 m2)
  pub reached : Reaches c p m r m2

module _ {N K : Type 0} (n : Meaning Setting N) (k : Meaning Setting K) where
  -- the plan leads from the old state to the answer and the new state
  abbrev pub Does : Plan → Negotiation (NegotiatedProtocol N K) → Answer →
      Negotiation (NegotiatedProtocol N K) → Type 0
  Does p old r new = Meets (hand n k) p old.mech r (values_of new) new.mech

  -- what was sealed and opened is as before, or a mechanism just taken has done neither
  abbrev pub StaysSilent : Negotiation (NegotiatedProtocol N K) →
      Negotiation (NegotiatedProtocol N K) → Type 0
  StaysSilent old new = NeitherSealsNorOpens ((hand n k).counts old.mech)
      ((hand n k).counts new.mech)

  -- if no MIC was made or verified before, none was after
  abbrev pub StaysUnmarked : Negotiation (NegotiatedProtocol N K) →
      Negotiation (NegotiatedProtocol N K) → Type 0
  StaysUnmarked old new = HasNoMic ((hand n k).counts old.mech) →
      HasNoMic ((hand n k).counts new.mech)

-- What a refused call leaves as it was, including the step that waits. All but the selected
-- mechanism and the packages, which stay consistent, the kept credentials, the need, and a server's
-- list.
pub record Stays (old new : Values) : Type 0 where
  pub role : new.role ≡ old.role
  pub state : new.state ≡ old.state
  pub packages : KeepsPackages old.packages old.hand new.packages new.hand
  pub list : old.role ≡ Client → new.list ≡ old.list
  pub known : new.known ≡ old.known
  pub computer : new.computer ≡ old.computer
  pub kdcs : new.kdcs ≡ old.kdcs
  pub branch : new.branch ≡ old.branch

-- what a refused resume leaves: the step still waits and everything is as it was, or the step is
-- over and the rest stays as after other refusals
pub data WaitsOn {N K : Type 0} (waiting over new : Negotiation (NegotiatedProtocol N K)) : Type 0
  where
    as_before : new ≡ waiting → WaitsOn waiting over new
    no_longer : Stays (values_of over) (values_of new) → WaitsOn waiting over new

-- the list of mechanisms, the selected mechanism, the kept credentials and the packages are as they
-- were
pub record StaysPicked (old new : Values) : Type 0 where
  pub list : new.list ≡ old.list
  pub hand : new.hand ≡ old.hand
  pub kept : new.kept ≡ old.kept
  pub packages : new.packages ≡ old.packages

-- the packages and the kept credentials are as they were
pub record StaysConfigured (old new : Values) : Type 0 where
  pub packages : new.packages ≡ old.packages
  pub kept : new.kept ≡ old.kept

-- if MICs were needed, they still are, except for a guest who is excused
abbrev pub StaysNeeded : Bool → Values → Values → Type 0
StaysNeeded excused old new = old.need ≡ true → excused ≡ false → new.need ≡ true

-- what a resumed step leaves as it was: the need and the kept credentials and, unless a first step
-- waits, the list, the packages and the name of the selected mechanism
pub record StaysResumed (old new : Values) : Type 0 where
  pub need : new.need ≡ old.need
  pub kept : new.kept ≡ old.kept
  pub picked : is_opening old.branch ≡ false → StaysPicked old new
