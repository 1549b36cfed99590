-- What `delegate_early` promises.
use Rattle.std.specs.Prelude.{◌≡◌, ℕ, Result, Ok, Err}
use Rattle.sspi_mech.specs.Meaning.{Meaning}
use Rattle.sspi_credssp.specs.Context.{ContextSetting}
use Rattle.sspi_delegate.specs.declared.answer.Delegation.{Delegation}
use Rattle.sspi_delegate.specs.declared.answer.DelegateError.{DelegateError}
use Rattle.sspi_delegate.specs.declared.answer.DelegateError.TheVariants as errors
use Rattle.sspi_delegate.specs.Headline.{Around, Parties, Delegates, Accounts, Stays}
use Rattle.sspi_delegate.specs.Headline.{IsFresh}
use Rattle.sspi_early.specs.declared.answer.Early.{Early}
use Rattle.sspi_early.specs.declared.answer.EarlyError.{EarlyError}
use Rattle.sspi_early.specs.declared.answer.EarlyError.TheVariants.{Delegate, Policy}
use Rattle.sspi_early.specs.declared.answer.EarlyError.TheVariants.{InsufficientMemory}
use Rattle.sspi_early.specs.Authorizes.{Authorizes, LinkAt, link_at}
use Rattle.sspi_early.specs.Policy.{PolicyMeaning}

-- the answer to a delegation that failed: its own error, but out of memory becomes that of this
-- call
abbrev pub refusal_of : DelegateError → EarlyError
refusal_of errors.InsufficientMemory = InsufficientMemory
refusal_of error = Delegate error

-- what follows a delegation
abbrev pub ComesBehind : {Q : Type 0} → PolicyMeaning Q → Delegation → LinkAt → LinkAt → Q → Q →
    Result Early EarlyError → Type 0
ComesBehind p delegation before after policy policy2 (Ok early) = (early.delegation ≡ delegation) ×
    Authorizes p delegation.credentials before after policy policy2
    (Ok (record { told = early.told; heard = early.heard }))
ComesBehind p delegation before after policy policy2 (Err error) =
    Authorizes p delegation.credentials before after policy policy2 (Err error)

-- the same after a delegation that may have failed: then nothing is told. `shows` is what a link
-- shows.
abbrev pub GoesOn : {L Q : Type 0} → (L → LinkAt) → PolicyMeaning Q →
    Result Delegation DelegateError → L → L → Q → Q →
    Result Early EarlyError → Type 0
GoesOn shows p (Ok delegation) link link2 policy policy2 result =
    ComesBehind p delegation (shows link) (shows link2) policy policy2 result
GoesOn shows p (Err error) link link2 policy policy2 result =
    (result ≡ Err (refusal_of error)) × (link2 ≡ link) × (policy2 ≡ policy)

abbrev pub shown_by : {P L D : Type 0} → Around P L D → L → LinkAt
shown_by around link = link_at (around.log link) (around.edits link) (around.link_faults link)

module _ {C P L D : Type 0} (c : Meaning ContextSetting C) (around : Around P L D) where
  -- all that `delegate` promises of an exchange
  pub record IsDelegated (old : Parties C P L D) (limit : ℕ)
      (result : Result Delegation DelegateError) (new : Parties C P L D)
      : Type 0 where
    pub delegates : IsFresh old.client old.server → Delegates c around old limit result new
    pub accounts : Accounts c around old limit result new
    pub stays : Stays around old limit result new

  -- A delegation, and what followed it. The two ends, the KDC and the turns are as the delegation
  -- left them. So is the log of the link, but for one entry at most.
  pub record IsEarly {Q : Type 0} (p : PolicyMeaning Q) (old : Parties C P L D) (limit : ℕ)
      (policy : Q) (result : Result Early EarlyError)
      (new : Parties C P L D) (policy2 : Q) : Type 0 where
    -- the result of the delegation, and the link as it left it
    pub delegated : Result Delegation DelegateError
    pub link : L
    pub delegation : IsDelegated old limit delegated (record new { link = link })
    pub goes_on : GoesOn (shown_by around) p delegated link new.link policy policy2 result
    -- if the policy failed, the link was not asked
    pub untouched : result ≡ Err Policy → new.link ≡ link
