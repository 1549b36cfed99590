-- What a channel carried, one request or message after the other.
use Rattle.std.proofs.Common.{◌≡◌, ℕ, Bool, true, Err, List, [], ◌∷◌, ◌++◌, Option, None, Some, Ok, refl, sym, ap, ◌∙◌, subst, append_assoc}
use Rattle.std.proofs.lemmas.List.{append-nil}
use Rattle.std.proofs.lemmas.List.Elements.{All-append, All-nil, All-push}
use Rattle.std.specs.Io.KnownBytes.{Appends, Consumes, Keeps}
use Rattle.std.proofs.KnownBytes.{Appends-kept, Appends-nil, Appends-trans, Consumes-kept, Consumes-nil, Consumes-trans}
use Rattle.sspi_tsreq.specs.declared.request.TsRequest.{TsRequest}
use Rattle.sspi_tsreq.specs.Spelling.{fits, spelled}
use Rattle.sspi_ber.specs.Outside.{WritesIf}
use Rattle.sspi_ber.specs.Short.{element, header}
use Rattle.sspi_ber.specs.declared.wire_kind.WireKind.{WireKind}
use Rattle.sspi_ber.specs.declared.wire_kind.WireKind.TheVariants as kinds
use Rattle.sspi_tsreq.specs.Answer.{Encodes}
use Rattle.sspi_framing.specs.Front.{IsText}
use Rattle.sspi_framing.proofs.Fronts.{joined}
use Rattle.sspi_credssp.specs.declared.turn.End.{End}
use Rattle.sspi_credssp.specs.declared.turn.End.TheVariants.{Client, Server}
use Rattle.sspi_credssp.specs.declared.turn.Turn.{Turn}
use Rattle.sspi_live.specs.Channel.{Carries, Channel, encodings}
use Rattle.sspi_live.specs.Answers.{IsOwn}
use Rattle.sspi_live.specs.Reading.{Reads}
use Rattle.sspi_live.specs.Sides.{one_or_none, read_for}
use Rattle.sspi_live.specs.Steps.{ReadsDue, WritesNewest}

encodings_joined : (sent others : List TsRequest) → encodings (sent ++ others) ≡ encodings sent ++ encodings others
encodings_joined [] others = refl
encodings_joined (m ∷ later) others =
    ap (λ (l : List ℕ). spelled m ++ l) (encodings_joined later others)
    ∙ sym (append_assoc (spelled m) (encodings later) (encodings others))

pub nothing_carried : (x : Channel) → Carries x x [] []
nothing_carried x = record {
  front = [];
  requests_are = refl;
  taken = Consumes-nil x.left;
  fit = All-nil (λ (m : TsRequest). fits m ≡ true);
  written = Appends-nil x.written;
  reading = refl;
  writing = refl;
}

pub carried_on : (a b c : Channel) (received more sent others : List TsRequest) → Carries a b received sent → Carries b c more others →
    Carries a c (received ++ more) (sent ++ others)
carried_on a b c received more sent others p q = record {
  front = p.front ++ q.front;
  requests_are = joined p.front q.front received more p.requests_are q.requests_are;
  taken = Consumes-trans a.left b.left c.left p.front q.front p.taken q.taken;
  fit = All-append (λ (m : TsRequest). fits m ≡ true) sent others p.fit q.fit;
  written = subst (λ (l : List ℕ). Appends a.written c.written l) (sym (encodings_joined sent others))
      (Appends-trans a.written b.written c.written (encodings sent) (encodings others) p.written q.written);
  reading = q.reading ∙ p.reading;
  writing = q.writing ∙ p.writing;
}

-- requests were read, and nothing was written
pub read_on : (a b c : Channel) (received more sent : List TsRequest) → Carries a b received sent → Carries b c more [] →
    Carries a c (received ++ more) sent
read_on a b c received more sent p q =
    subst (λ (l : List TsRequest). Carries a c (received ++ more) l) (append-nil sent) (carried_on a b c received more sent [] p q)

-- messages were written, and nothing was read
pub written_on : (a b c : Channel) (received sent others : List TsRequest) → Carries a b received sent → Carries b c [] others →
    Carries a c received (sent ++ others)
written_on a b c received sent others p q =
    subst (λ (l : List TsRequest). Carries a c l (sent ++ others)) (append-nil received) (carried_on a b c received [] sent others p q)

-- one request was read
pub one_read : (a b : Channel) (d : TsRequest) → (text : List ℕ) × IsText text d × Consumes a.left b.left text →
    b.read_faults ≡ a.read_faults → Keeps a.written b.written → b.write_faults ≡ a.write_faults → Carries a b (d ∷ []) []
one_read a b d (text, is, taken) reading kept writing = record {
  front = text;
  requests_are = (text, [], sym (append-nil text), is, refl);
  taken = taken;
  fit = All-nil (λ (m : TsRequest). fits m ≡ true);
  written = Appends-kept a.written a.written b.written [] (Appends-nil a.written) kept;
  reading = reading;
  writing = writing;
}

-- what an end has read for its next turn
pub server_read : (past : List Turn) (a b : Channel) (d : TsRequest) → Reads Server a.left b.left a.read_faults b.read_faults (Ok d) →
    Keeps a.written b.written → b.write_faults ≡ a.write_faults → Carries a b (read_for Server past d) []
server_read past a b d r kept writing = one_read a b d r.0 r.1 kept writing

-- nothing was read for a turn whose request is its end's own
pub none_read : (a b : Channel) → Keeps a.left b.left → b.read_faults ≡ a.read_faults → Keeps a.written b.written →
    b.write_faults ≡ a.write_faults → Carries a b [] []
none_read a b left reading kept writing = record {
  front = [];
  requests_are = refl;
  taken = Consumes-kept a.left a.left b.left [] (Consumes-nil a.left) left;
  fit = All-nil (λ (m : TsRequest). fits m ≡ true);
  written = Appends-kept a.written a.written b.written [] (Appends-nil a.written) kept;
  reading = reading;
  writing = writing;
}

pub client_read : (past : List Turn) (a b : Channel) (d : TsRequest) →
    ReadsDue Client past a.left b.left a.read_faults b.read_faults (Ok d) → Keeps a.written b.written →
    b.write_faults ≡ a.write_faults → Carries a b (read_for Client past d) []
client_read [] a b d r kept writing = none_read a b r.1 r.2 kept writing
client_read (t ∷ past) a b d r kept writing = one_read a b d r.0 r.1 kept writing

pub read_own : (past : List Turn) (left rest : Option (List ℕ)) (before now : ℕ) (d : TsRequest) →
    ReadsDue Client past left rest before now (Ok d) → IsOwn Client past d
read_own [] left rest before now d r = r.0
read_own (t ∷ past) left rest before now d r = tt

-- the newest turn's message was written, or it has none
pub one_written : (end : End) (message : Option TsRequest) (a b : Channel) (done : Unit {0}) →
    WritesNewest end message a.written b.written a.write_faults b.write_faults (Ok done) → Keeps a.left b.left →
    b.read_faults ≡ a.read_faults → Carries a b [] (one_or_none message)
one_written end None a b done w left reading = record {
  front = [];
  requests_are = refl;
  taken = Consumes-kept a.left a.left b.left [] (Consumes-nil a.left) left;
  fit = All-nil (λ (m : TsRequest). fits m ≡ true);
  written = Appends-kept a.written a.written b.written [] (Appends-nil a.written) w.0;
  reading = reading;
  writing = w.1;
}
one_written end (Some m) a b done w left reading = record {
  front = [];
  requests_are = refl;
  taken = Consumes-kept a.left a.left b.left [] (Consumes-nil a.left) left;
  fit = All-push (λ (x : TsRequest). fits x ≡ true) [] m (All-nil (λ (x : TsRequest). fits x ≡ true)) w.0;
  written = subst (λ (l : List ℕ). Appends a.written b.written l) (sym (append-nil (spelled m))) w.1;
  reading = reading;
  writing = w.2;
}

-- ---- a message for which memory ran out

spelled_some : (m : TsRequest) → spelled m ≡ [] → ⊥
unfolding spelled element header
spelled_some m e = absurd (cc (e))

pub unwritten : {W : Type 0} (written : W → Option (List ℕ)) (sink : W) (m : TsRequest) (kind : WireKind) → Encodes m (Err kind) →
    WritesIf {X = Unit {0}} (fits m) written sink sink (Err kind) (spelled m)
unwritten written sink m kinds.InsufficientMemory fit =
    subst (λ (b : Bool). WritesIf {X = Unit {0}} b written sink sink (Err kinds.InsufficientMemory) (spelled m)) (sym fit)
    (record { front = []; rest = spelled m; appended = Appends-nil (written sink); parts = refl; cut = spelled_some m })
unwritten written sink m kinds.InvalidData fit =
    subst (λ (b : Bool). WritesIf {X = Unit {0}} b written sink sink (Err kinds.InvalidData) (spelled m)) (sym fit) (refl, refl)
unwritten written sink m kinds.UnexpectedEof fit = absurd fit
unwritten written sink m kinds.ReadFault fit = absurd fit
unwritten written sink m kinds.WriteFault fit = absurd fit
