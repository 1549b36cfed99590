-- What the contexts of negotiations make of steps and messages, apart from their counts.
use Rattle.std.proofs.Common.{◌≡◌, ◌≢◌, ◌↔◌, ℕ, ◌<◌, ◌-◌, ◌^◌, Bool, IsTrue, List, [], ◌∷◌, Option, None, Some, Result, Ok, Err}
use Rattle.std.proofs.Common.{refl, ap, sym, ◌∙◌, subst, arith}
use Rattle.sspi_types.specs.declared.credential_use.CredentialUse.TheVariants.{Inbound, Outbound}
use Rattle.sspi_types.specs.declared.error.Error.{Error}
use Rattle.sspi_types.specs.declared.error_kind.ErrorKind.{ErrorKind}
use Rattle.sspi_types.specs.declared.error_kind.ErrorKind.TheVariants.{InsufficientMemory}
use Rattle.sspi_names.specs.declared.credentials.CredentialsBuffers.{CredentialsBuffers}
use Rattle.sspi_names.specs.declared.network.NetworkRequest.{NetworkRequest}
use Rattle.sspi_mech.specs.declared.protection.Direction.{Direction}
use Rattle.sspi_mech.specs.declared.step.Answer.{Answer}
use Rattle.sspi_mech.specs.declared.step.Answer.TheVariants.{Done, Ask, Refused}
use Rattle.sspi_mech.specs.declared.step.Reply.{Reply}
use Rattle.sspi_mech.specs.declared.step.Reply.TheVariants.{Answered, Failed}
use Rattle.sspi_mech.specs.declared.step.Step.{Step}
use Rattle.sspi_types.specs.Counting.{counted_on}
use Rattle.sspi_mech.specs.Calls.{StepArgs, AcceptArgs, ToSeal, ToUnseal}
use Rattle.sspi_mech.specs.Context.{IsContext}
use Rattle.sspi_mech.specs.Kerberos.{kerberos_meaning}
use Rattle.sspi_mech.specs.KerberosStage.{KerberosState}
use Rattle.sspi_mech.specs.Meaning.{Meaning}
use Rattle.sspi_mech.specs.Ntlm.{ntlm_meaning}
use Rattle.sspi_mech.specs.NtlmStage.{NtlmState}
use Rattle.sspi_mech.specs.Protection.{SealsBy, OpensBy, making_refusal, unseal_refusal}
use Rattle.sspi_negotiate.specs.declared.protocol.NegotiatedProtocol.TheVariants.{Ntlm, Kerberos}
use Rattle.sspi_negotiate.specs.Client.{spnego_client, spnego_resumed}
use Rattle.sspi_negotiate.specs.Does.{Does, UnlessMemory}
use Rattle.sspi_negotiate.specs.Does as does
use Rattle.sspi_negotiate.specs.Plan.{Plan}
use Rattle.sspi_negotiate.specs.Server.{spnego_server}
use Rattle.sspi_negotiate.specs.Target.{IsNamedByIp}
use Rattle.sspi_negotiate.specs.Values.{Values, Negotiation, values_of}
use Rattle.sspi_credssp.specs.declared.context.SspiContext.{SspiContext}
use Rattle.sspi_credssp.specs.declared.context.SspiContext.TheVariants as contexts
use Rattle.sspi_credssp.specs.Context.{Begun, ContextSetting, ForClient, either}
use Rattle.sspi_credssp.specs.Ends.{ClientView, ServerView}
use Rattle.sspi_credssp.specs.ClientTurn.{Asked, Walked, stepped, resumed, still_asked, recounted as walk_recounted, client_args}
use Rattle.sspi_credssp.specs.Acts.{silent, cleared}
use Rattle.sspi_credssp.specs.Proxy.{ProxyMeaning}
use Rattle.sspi_credssp.specs.ServerTurn.{server_args, server_setting}
use Rattle.sspi_credssp.proofs.Deliver.{bare_after}
use Rattle.sspi_delegate.specs.Chain.{kdc_calls, HasReplied, RepliesAsTold}
use Rattle.sspi_completeness.proofs.Accepting.{Takes}
use Rattle.sspi_completeness.proofs.Blobs.{blob_of, blob_long, one_text, never_unopened, never_unsealed}
use Rattle.sspi_completeness.proofs.ClientTurns.{Walks}
use Rattle.sspi_completeness.proofs.Ends.{IsMaker, IsTaker}
use Rattle.sspi_completeness.proofs.Runs.{M, h, End, Ends, Waits, Unsaid, runs, Is, IsDecided, planned, protection_of, own_direction}
use Rattle.sspi_completeness.proofs.Runs.{peer_direction}
use Rattle.sspi_completeness.proofs.Runs.{used}

abbrev pub C : Type 0
C = SspiContext NtlmState KerberosState

abbrev pub c : Meaning ContextSetting C
c = either 0 ntlm_meaning kerberos_meaning

-- one end, with these values and this mechanism
abbrev pub with_values : Values → M → Negotiation M
with_values v m = record {
  role = v.role;
  state = v.state;
  packages = v.packages;
  list = v.list;
  need = v.need;
  kept = v.kept;
  known = v.known;
  computer = v.computer;
  kdcs = v.kdcs;
  branch = v.branch;
  mech = m;
}

-- its values, under the name of that mechanism
abbrev pub named_by : Values → M → Values
named_by v m = values_of (with_values v m)

abbrev pub holding : Values → M → C
holding v m = contexts.Negotiate (with_values v m)

-- the mechanism that sealed and opened nothing
abbrev pub at_rest : M → M
at_rest m = h.counted m (silent (h.counts m))

-- a context that is this one at rest
pub as_holding : (m : C) (v : Values) (x : M) → cleared c m ≡ holding v x → (y : M) × (m ≡ holding v y) × (at_rest y ≡ x)
as_holding (contexts.Ntlm y) v x same = absurd cc
as_holding (contexts.Kerberos y) v x same = absurd cc
as_holding (contexts.Negotiate s) v x same =
    let inside : record s { mech = at_rest s.mech } ≡ with_values v x = cc in (
      s.mech,
      ap (λ (t : Negotiation M). contexts.Negotiate (record t { mech = s.mech })) inside,
      ap (λ (t : Negotiation M). t.mech) inside,
    )

-- ---- messages

key_rests : (m : M) → (protection_of (at_rest m)).key ≡ (protection_of m).key
key_rests (Ntlm m) = refl
key_rests (Kerberos m) = refl

own_rests : (m : M) → own_direction (at_rest m) ≡ own_direction m
own_rests (Ntlm m) = refl
own_rests (Kerberos m) = refl

peer_rests : (m : M) → peer_direction (at_rest m) ≡ peer_direction m
peer_rests (Ntlm m) = refl
peer_rests (Kerberos m) = refl

seals_so : (m : M) (n : ℕ) (text blob : List ℕ) → h.seals m n text blob → SealsBy (protection_of m).key (own_direction m) n text blob
seals_so (Ntlm m) n text blob seals = seals
seals_so (Kerberos m) n text blob seals = seals

opens_so : (m : M) (n : ℕ) (blob text : List ℕ) → h.opens m n blob text → OpensBy (protection_of m).key (peer_direction m) n blob text
opens_so (Ntlm m) n blob text opens = opens
opens_so (Kerberos m) n blob text opens = opens

unsealed_so : (m : M) (text : List ℕ) (kind : ErrorKind) → h.refuses m (ToSeal text) kind →
    making_refusal (protection_of m).key (h.counts m).sealings ≡ Some kind
unsealed_so (Ntlm m) text kind refuses = refuses
unsealed_so (Kerberos m) text kind refuses = refuses

unopened_so : (m : M) (blob : List ℕ) (kind : ErrorKind) → h.refuses m (ToUnseal blob) kind →
    unseal_refusal (protection_of m).key (peer_direction m) (h.counts m).unsealings blob ≡ Some kind
unopened_so (Ntlm m) blob kind refuses = refuses
unopened_so (Kerberos m) blob kind refuses = refuses

-- a mechanism with this key, which makes messages in one direction and takes them in the other
pub record IsKeyed (x : M) (key : List ℕ) (own peers : Direction) : Type 0 where
  pub keyed : (protection_of x).key ≡ Some key
  pub own_is : own_direction x ≡ own
  pub peers_are : peer_direction x ≡ peers

still_keyed : (x y : M) (key : List ℕ) (own peers : Direction) → at_rest y ≡ x → IsKeyed x key own peers → IsKeyed y key own peers
still_keyed x y key own peers same is = record {
  keyed = sym (key_rests y) ∙ ap (λ (m : M). (protection_of m).key) same ∙ is.keyed;
  own_is = sym (own_rests y) ∙ ap own_direction same ∙ is.own_is;
  peers_are = sym (peer_rests y) ∙ ap peer_direction same ∙ is.peers_are;
}

module _ (v : Values) (x : M) (key : List ℕ) (own peers : Direction) (is : IsKeyed x key own peers) where
  pub maker : IsMaker c (holding v x) (blob_of key own)
  maker = record {
    made = λ m n text sealed same seals.
        let at = as_holding m v x same in
        let y = still_keyed x at.0 key own peers at.2 is in
        subst (λ (o : Option (List ℕ)). SealsBy o own n text sealed) y.keyed
        (subst (λ (d : Direction). SealsBy (protection_of at.0).key d n text sealed) y.own_is
        (seals_so at.0 n text sealed (subst (λ (z : C). c.seals z n text sealed) at.1 seals)));
    never = λ m text kind same few refuses.
        let at = as_holding m v x same in
        never_unsealed (protection_of at.0).key key _ kind (still_keyed x at.0 key own peers at.2 is).keyed
        (subst (λ (z : C). (c.counts z).sealings < 2 ^ 64 - 1) at.1 few)
        (unsealed_so at.0 text kind (subst (λ (z : C). c.refuses z (ToSeal text) kind) at.1 refuses));
  }

  pub taker : IsTaker c (holding v x) (blob_of key peers)
  taker = record {
    opened = λ m n i text text2 same opens.
        let at = as_holding m v x same in
        one_text _ _ key peers n i text text2
        (opens_so at.0 i (blob_of key peers n text) text2 (subst (λ (z : C). c.opens z i (blob_of key peers n text) text2) at.1 opens));
    never = λ m n text kind same next few refuses.
        let at = as_holding m v x same in
        let y = still_keyed x at.0 key own peers at.2 is in
        never_unopened (protection_of at.0).key (peer_direction at.0) _ key peers n text kind y.keyed y.peers_are
        (subst (λ (z : C). (c.counts z).unsealings ≡ n) at.1 next) few
        (unopened_so at.0 (blob_of key peers n text) kind
        (subst (λ (z : C). c.refuses z (ToUnseal (blob_of key peers n text)) kind) at.1 refuses));
    long = λ n text. blob_long key peers n text;
  }

-- ---- steps

planned_so : (r : Answer) (P : Type 0) → IsDecided r → UnlessMemory r P → P
planned_so (Done step) P decided it = it
planned_so (Ask request) P decided it = it
planned_so (Refused error) P decided it = it (decided error refl)

-- the answer is what a plan was evaluated to, and so is the context
abbrev IsAt : End → Answer → C → Type 0
IsAt (Ends v step m) r context = (r ≡ Done step) × (context ≡ holding v m)
IsAt (Waits v request m) r context = (r ≡ Ask request) × (context ≡ holding v (Kerberos m))
IsAt Unsaid r context = Unit {0}

moved : (p : Plan) (s s2 : Negotiation M) (r : Answer) → IsDecided r → Does ntlm_meaning kerberos_meaning p s r s2 →
    IsAt (runs p s.mech) r (contexts.Negotiate s2)
moved p s s2 r decided it =
    at (runs p s.mech) (planned r (values_of s2) s2.mech decided p s.mech (planned_so r _ decided it.as_planned))
  where
    same : (v : Values) (m : M) → values_of s2 ≡ v → s2.mech ≡ m → contexts.Negotiate s2 ≡ holding v m
    same v m values mech =
        ap (λ (w : Values). holding w s2.mech) values ∙ ap (λ (o : M). holding v o) mech

    at : (e : End) → Is e r (values_of s2) s2.mech → IsAt e r (contexts.Negotiate s2)
    at (Ends v step m) is = (is.0, same v m is.1 is.2)
    at (Waits v request m) is = (is.0, same v (Kerberos m) is.1 is.2)
    at Unsaid is = tt

done_decided : (step : Step) → IsDecided (Done step)
done_decided step error is = absurd (cc (is))

refused_decided : (error : Error) → error.error_type ≢ InsufficientMemory → IsDecided (Refused error)
refused_decided error others error2 is = let same : error ≡ error2 = cc in subst (λ (e : Error). e.error_type ≢ InsufficientMemory) same
    others

ask_decided : (request : NetworkRequest) → IsDecided (Ask request)
ask_decided request error is = absurd (cc (is))

client_at : (s : Negotiation M) (args : StepArgs) (r : Answer) (m : C) (e : End) →
    ((ip : Bool) → (IsTrue ip ↔ IsNamedByIp args.target) → runs (spnego_client ip (values_of s) args) s.mech ≡ e) → IsDecided r →
    c.steps (contexts.Negotiate s) args r m → IsAt e r m
client_at s args r (contexts.Negotiate s2) e ends decided steps =
    subst (λ (x : End). IsAt x r (contexts.Negotiate s2)) (ends steps.ip steps.ip_is)
    (moved (spnego_client steps.ip (values_of s) args) s s2 r decided steps.moves.follows)
client_at s args r (contexts.Ntlm y) e ends decided steps = absurd steps
client_at s args r (contexts.Kerberos y) e ends decided steps = absurd steps

resumed_at : (s : Negotiation M) (reply : Reply) (r : Answer) (m : C) → IsDecided r → c.resumes (contexts.Negotiate s) reply r m →
    IsAt (runs (spnego_resumed (values_of s) reply) s.mech) r m
resumed_at s reply r (contexts.Negotiate s2) decided resumes = moved (spnego_resumed (values_of s) reply) s s2 r decided resumes.follows
resumed_at s reply r (contexts.Ntlm y) decided resumes = absurd resumes
resumed_at s reply r (contexts.Kerberos y) decided resumes = absurd resumes

server_at : (s : Negotiation M) (args : AcceptArgs) (r : Result Step Error) (m : C) → IsDecided (does.told r) →
    c.accepts (contexts.Negotiate s) args r m → IsAt (runs (spnego_server (values_of s) args) s.mech) (does.told r) m
server_at s args r (contexts.Negotiate s2) decided accepts = moved (spnego_server (values_of s) args) s s2 (does.told r) decided
    accepts.moves.follows
server_at s args r (contexts.Ntlm y) decided accepts = absurd accepts
server_at s args r (contexts.Kerberos y) decided accepts = absurd accepts

-- ---- a client's step, with the replies of a KDC that exposes them

-- A step by this plan comes to a step, values and mechanism: at once; or after one reply, which the KDC has for its call of that
-- number.
pub data Leads (told : Option (ℕ → NetworkRequest → Reply)) (call : ℕ) (e : End) (v : Values) (step : Step) (m : M) : ℕ → Type 0 where
  at_once : e ≡ Ends v step m → Leads told call e v step m call
  asking : (replies : ℕ → NetworkRequest → Reply) (v1 : Values) (question : NetworkRequest) (x : KerberosState) (bytes : List ℕ)
      (after : ℕ → ℕ → M) →
      told ≡ Some replies → e ≡ Waits v1 question x → replies call question ≡ Answered bytes →
      ((sealed unsealed : ℕ) → runs (spnego_resumed (named_by v1 (Kerberos x)) (Answered bytes)) (Kerberos (used x sealed unsealed))
      ≡ Ends v step (after sealed unsealed)) →
      ((sealed unsealed : ℕ) → at_rest (after sealed unsealed) ≡ m) → Leads told call e v step m (counted_on call)

-- an object that is this one at rest
as_used : (y : M) (x : KerberosState) → at_rest y ≡ at_rest (Kerberos x) →
    (sealed : ℕ) × (unsealed : ℕ) × (y ≡ Kerberos (used x sealed unsealed))
as_used (Ntlm y) x rest = absurd cc
as_used (Kerberos y) x rest =
    let same : used y 0 0 ≡ used x 0 0 = cc in (
      y.protection.sealings,
      y.protection.unsealings,
      ap (λ (z : KerberosState). Kerberos (used z y.protection.sealings y.protection.unsealings))
          same,
    )

module _ {D : Type 0} (told : D → Option (ℕ → NetworkRequest → Reply)) (calls faults : D → ℕ) where
  -- the KDC exposes the same replies, and this is the number of its next call
  pub record KdcIs (first : D) (call : ℕ) (kdc : D) : Type 0 where
    pub same : told kdc ≡ told first
    pub called : calls kdc ≡ call

  replied : (before now first : D) (replies : ℕ → NetworkRequest → Reply) (call : ℕ) (question : NetworkRequest) (reply : Reply)
      (bytes : List ℕ) →
      KdcIs first call before → told first ≡ Some replies → replies call question ≡ Answered bytes →
      HasReplied told calls faults before question reply now → (reply ≡ Answered bytes) × KdcIs first (counted_on call) now
  replied before now first replies call question reply bytes at tells given it = (
    is reply (subst (λ (n : ℕ). RepliesAsTold (Some replies) n question reply (faults before) (faults now)) at.called
        (subst (λ (o : Option _). RepliesAsTold o (calls before) question reply (faults before) (faults now)) (at.same ∙ tells)
        it.as_told)),
    record { same = it.told_same ∙ at.same; called = it.called ∙ ap counted_on at.called },
  )
    where
      is : (reply : Reply) → RepliesAsTold (Some replies) call question reply (faults before) (faults now) → reply ≡ Answered bytes
      is (Answered other) as_told = sym as_told.0 ∙ given
      is Failed as_told = absurd (let never : Failed ≡ Answered bytes = sym as_told ∙ given in cc)

  module _ (laws : IsContext c) (old : ClientView C) (first kdc : D) (token : Option (List ℕ)) (v v2 : Values) (m m2 : M) (step : Step)
      (handle : Option CredentialsBuffers) (call call2 : ℕ) (at : KdcIs first call kdc) (rests : at_rest m2 ≡ m2)
      (begins : (g : Option CredentialsBuffers) (m0 : C) →
      Begun c old.context old.handle (ForClient old.settings.mode) Outbound (Some old.settings.credentials) g m0 →
      (m0 ≡ holding v m) × (g ≡ handle))
      (e : End) (leads : Leads (told first) call e v2 step m2 call2)
      (ends : (ip : Bool) → (IsTrue ip ↔ IsNamedByIp (Some old.settings.target)) →
      runs (spnego_client ip (named_by v m) (client_args handle old.settings.target token)) m ≡ e) where
    -- how far a walk came, by whether it asked
    abbrev HasCome : List Asked → D → Answer → C → Type 0
    HasCome [] kdc2 r z = (kdc2 ≡ kdc) × (w : C) × (cleared c z ≡ cleared c w) × IsAt e r w
    HasCome (asked ∷ log) kdc2 r z = (r ≡ Done step) × (cleared c z ≡ holding v2 m2) × KdcIs first call2 kdc2

    recounts : (log : List Asked) (kdc2 : D) (r : Answer) (z z2 : C) → cleared c z2 ≡ cleared c z → HasCome log kdc2 r z →
        HasCome log kdc2 r z2
    recounts [] kdc2 r z z2 same it = (it.0, it.1, same ∙ it.2, it.3)
    recounts (asked ∷ log) kdc2 r z z2 same it = (it.0, same ∙ it.1, it.2)

    abbrev IsOver : ℕ → D → Answer → C → Type 0
    IsOver n kdc2 r z = (r ≡ Done step) × (cleared c z ≡ holding v2 m2) × KdcIs first n kdc2

    -- after one reply
    resumes_so : (log : List Asked) (kdc1 kdc2 : D) (question : NetworkRequest) (reply : Reply) (r : Answer) (z z2 : C) → IsDecided r →
        HasCome log kdc1 (Ask question) z → HasReplied told calls faults kdc1 question reply kdc2 → c.resumes z reply r z2 →
        IsOver call2 kdc2 r z2
    resumes_so (asked ∷ log) kdc1 kdc2 question reply r z z2 decided come it resumes = absurd (cc (come.0))
    resumes_so [] kdc1 kdc2 question reply r z z2 decided come it resumes = by call2 leads
      where
        by : (n : ℕ) → Leads (told first) call e v2 step m2 n → IsOver n kdc2 r z2
        by n (at_once is) = absurd (let here = subst (λ (x : End). IsAt x (Ask question) come.1) is come.3 in cc (here.0))
        by n (asking replies v1 asked x bytes after tells is given goes rest) =
            let here = subst (λ (f : End). IsAt f (Ask question) come.1) is come.3 in
            let same : question ≡ asked = (let e2 = here.0 in cc) in
            let held = as_holding z v1 (at_rest (Kerberos x)) (come.2 ∙ ap (cleared c) here.1) in
            let was = as_used held.0 x held.2 in
            let told_so = replied kdc1 kdc2 first replies call asked reply bytes
            (subst (λ (d : D). KdcIs first call d) (sym come.0) at) tells given
            (subst (λ (q : NetworkRequest). HasReplied told calls faults kdc1 q reply kdc2) same it) in
            let goes_so : c.resumes (holding v1 (Kerberos (used x was.0 was.1))) (Answered bytes) r z2 =
            subst (λ (b : Reply). c.resumes (holding v1 (Kerberos (used x was.0 was.1))) b r z2) told_so.0
            (subst (λ (y : C). c.resumes y reply r z2) (held.1 ∙ ap (holding v1) was.2) resumes) in
            let over = subst (λ (f : End). IsAt f r z2) (goes was.0 was.1)
            (resumed_at (with_values v1 (Kerberos (used x was.0 was.1))) (Answered bytes) r z2 decided goes_so) in
            (over.0, ap (cleared c) over.1 ∙ ap (holding v2) (rest was.0 was.1), told_so.1)

    -- without a reply
    once_so : (kdc2 : D) (r : Answer) (z : C) → ((q : NetworkRequest) → r ≡ Ask q → ⊥) → HasCome [] kdc2 r z → IsOver call2 kdc2 r z
    once_so kdc2 r z answers come = by call2 leads
      where
        by : (n : ℕ) → Leads (told first) call e v2 step m2 n → IsOver n kdc2 r z
        by n (at_once is) =
            let over = subst (λ (f : End). IsAt f r come.1) is come.3 in (
              over.0,
              come.2 ∙ ap (cleared c) over.1 ∙ ap (holding v2) rests,
              subst (λ (d : D). KdcIs first n d) (sym come.0) at,
            )
        by n (asking replies v1 asked x bytes after tells is given goes rest) =
            absurd (answers asked (subst (λ (f : End). IsAt f r come.1) is come.3).0)

    over_so : (log : List Asked) (kdc2 : D) (r : Answer) (z : C) → ((q : NetworkRequest) → r ≡ Ask q → ⊥) → HasCome log kdc2 r z →
        IsOver call2 kdc2 r z
    over_so [] kdc2 r z answers come = once_so kdc2 r z answers come
    over_so (asked ∷ log) kdc2 r z answers come = come

    walked_so : (g : Option CredentialsBuffers) (tries : ℕ) (log : List Asked) (kdc2 : D) (r : Answer) (z : C) → tries ≡ 0 → IsDecided r →
        (kdc_calls told calls faults).replies kdc log kdc2 → Walked c old g token tries log r z → HasCome log kdc2 r z × (g ≡ handle)
    walked_so g tries log kdc2 r z none decided replies (stepped m0 m1 a begun steps) =
        let b = begins g m0 begun in (
          (
            replies,
            z,
            refl,
            client_at (with_values v m) (client_args handle old.settings.target token) r z e ends decided
                (subst (λ (x : Option CredentialsBuffers). c.steps (holding v m) (client_args x old.settings.target token) r z) b.1
                (subst (λ (y : C). c.steps y (client_args g old.settings.target token) r z) b.0 steps)),
          ),
          b.1,
        )
    walked_so g tries log kdc2 r z none decided replies (resumed m1 z2 tried before q reply a walked resumes) =
        let w = walked_so g tries before replies.0 (Ask q) m1 none (ask_decided q) replies.1 walked in
        (resumes_so before replies.0 kdc2 q reply r m1 z decided w.0 replies.2 resumes, w.1)
    walked_so g tries log kdc2 r z none decided replies (still_asked m1 z2 tried before q reply error walked resumes waits) =
        absurd (omega (arith, none))
    walked_so g tries log kdc2 r z none decided replies (walk_recounted m1 z2 n tried before a walked counted quiet) =
        let w = walked_so g tries log kdc2 r m1 none decided replies walked in
        (recounts log kdc2 r m1 z (bare_after c laws m1 z n counted quiet) w.0, w.1)

    pub walks_by : Walks c laws (kdc_calls told calls faults) old kdc token step (holding v2 m2) handle (KdcIs first call2)
    walks_by = record {
      done = λ g log kdc2 s z replies walked.
          let w = walked_so g 0 log kdc2 (Done s) z refl (done_decided s) replies walked in
          let over = over_so log kdc2 (Done s) z (λ q is. cc (is)) w.0 in
          let same : s ≡ step = (let e2 = over.0 in cc) in
          (same, over.1, w.1, over.2);
      never = λ g log kdc2 error z replies others walked.
          let w = walked_so g 0 log kdc2 (Refused error) z refl (refused_decided error others) replies walked in
          let over = over_so log kdc2 (Refused error) z (λ q is. cc (is)) w.0 in
          absurd (cc (over.0));
    }

-- ---- a server's

module _ {P : Type 0} (laws : IsContext c) (p : ProxyMeaning P) (old : ServerView C P) (token : Option (List ℕ)) (v v2 : Values)
    (m m2 : M) (step : Step) (rests : at_rest m2 ≡ m2)
    (begins : (g : Option CredentialsBuffers) (m0 : C) → Begun c old.context old.handle (server_setting p old) Inbound None g m0 →
    (m0 ≡ holding v m) × (g ≡ None))
    (ends : runs (spnego_server (named_by v m) (server_args None token)) m ≡ Ends v2 step m2) where
  accepted_so : (g : Option CredentialsBuffers) (r : Result Step Error) (m0 z : C) → IsDecided (does.told r) →
      Begun c old.context old.handle (server_setting p old) Inbound None g m0 → c.accepts m0 (server_args g token) r z →
      (does.told r ≡ Done step) × (cleared c z ≡ holding v2 m2) × (g ≡ None)
  accepted_so g r m0 z decided begun accepts =
      let b = begins g m0 begun in
      let over = subst (λ (e : End). IsAt e (does.told r) z) ends
      (server_at (with_values v m) (server_args None token) r z decided
      (subst (λ (x : Option CredentialsBuffers). c.accepts (holding v m) (server_args x token) r z) b.1
      (subst (λ (y : C). c.accepts y (server_args g token) r z) b.0 accepts))) in
      (over.0, ap (cleared c) over.1 ∙ ap (holding v2) rests, b.1)

  pub takes_by : Takes c laws p old token step (holding v2 m2) None
  takes_by = record {
    done = λ g m0 z s begun accepts.
        let t = accepted_so g (Ok s) m0 z (done_decided s) begun accepts in
        let same : s ≡ step = (let e = t.0 in cc) in
        (same, t.1, t.2);
    never = λ g m0 z error others begun accepts.
        let t = accepted_so g (Err error) m0 z (refused_decided error others) begun accepts in absurd (cc (t.0));
  }
