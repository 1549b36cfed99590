-- What a policy exposes about itself, and what a call on it does.
use Rattle.std.specs.Prelude.{◌≡◌, ℕ, ◌≤◌, List, Bool, Option, None, Some, Result, Ok, Err}
use Rattle.std.specs.List.{list_any}
use Rattle.sspi_ber.specs.Outside.{Rose}
use Rattle.sspi_names.specs.declared.identity.AuthIdentity.{AuthIdentity}
use Rattle.sspi_names.specs.Name.{Name, equals_ignoring_case}
use Rattle.sspi_early.specs.declared.policy.PolicyError.{PolicyError}
use Rattle.sspi_early.specs.declared.policy.PolicyError.TheVariants.{Failed, InsufficientMemory}

-- a listed name is this one, ignoring the case of ASCII letters
abbrev pub is_listed : List Name → Name → Bool
is_listed names name = list_any (λ listed. equals_ignoring_case listed name) names

-- what a policy P means
pub record PolicyMeaning (P : Type 0) : Type 1 where
  -- the names of those who may log on, if it exposes them
  pub names : P → Option (List Name)
  -- how often it failed
  pub faults : P → ℕ
  -- what it may answer about an identity, and its state then
  pub answers : P → AuthIdentity → Result Bool PolicyError → P → Type 0

-- if the names are exposed: the user may log on exactly if the identity's name is one of them
abbrev pub DecidesByNames : Option (List Name) → Name → Result Bool PolicyError → Type 0
DecidesByNames None name decision = Unit {0}
DecidesByNames (Some names) name (Ok admitted) = admitted ≡ is_listed names name
DecidesByNames (Some names) name (Err error) = Unit {0}

-- the count of faults never falls; a failure raises it, or finds it at its maximum
abbrev pub PolicyCause : ℕ → ℕ → Result Bool PolicyError → Type 0
PolicyCause before now (Ok admitted) = before ≤ now
PolicyCause before now (Err Failed) = (before ≤ now) × Rose before now
PolicyCause before now (Err InsufficientMemory) = before ≤ now

-- one call of a policy: its decision on this identity
pub record HasDecided {P : Type 0} (p : PolicyMeaning P) (before : P) (identity : AuthIdentity)
    (decision : Result Bool PolicyError)
    (now : P) : Type 0 where
  pub answered : p.answers before identity decision now
  pub by_names : DecidesByNames (p.names before) identity.username decision
  pub names_same : p.names now ≡ p.names before
  pub cause : PolicyCause (p.faults before) (p.faults now) decision

-- ---- the policies of this crate

-- by a list of names, which it exposes; it never fails
abbrev pub list_meaning : PolicyMeaning (List Name)
list_meaning = record {
  names = λ names. Some names;
  faults = λ names. 0;
  answers = λ names identity decision names2. (decision ≡ Ok (is_listed names identity.username)) ×
      (names2 ≡ names);
}

-- its state is its count of faults; it fails whenever it is asked
abbrev pub failing_meaning : PolicyMeaning ℕ
failing_meaning = record {
  names = λ faults. None;
  faults = λ faults. faults;
  answers = λ faults identity decision faults2. decision ≡ Err Failed;
}
