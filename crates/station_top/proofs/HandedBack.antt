-- What a command that waits for nobody answers is what the station answers; one that waits is handed back, or memory ran out.
use Rattle.std.proofs.Common.{◌≡◌, ℕ, Bool, List, Option, refl, sym, ap, ◌∙◌, subst}
use Rattle.bmp_specs.specs.Meaning.{Meaning}
use Rattle.station_doors.specs.Doors.{YardSeen, YardValue}
use Rattle.station_run.specs.declared.outcome.Outcome.{Outcome}
use Rattle.station_words.specs.Words.{IsCall}
use Rattle.station_words.specs.declared.serve_words.ServeWords.{ServeWords}
use Rattle.station_words.specs.declared.words.Call.{Call}
use Rattle.station_words.specs.declared.words.Command.{Command}
use Rattle.station_words.specs.declared.words.Command.TheVariants.{Drill}
use Rattle.station_top.specs.Station.{Answers, ServesNobody, archived_to, drilled, explained, judged_by, recalled_from, relayed_to, replied_to, served}
use Rattle.station_top.specs.Waiting.{IsOf, Waits}
use Rattle.station_top.specs.declared.status.Status.{Status}
use Rattle.station_top.specs.declared.waiting.Waiting.{Waiting}
use Rattle.station_top.specs.declared.waiting.Waiting.TheVariants as waiting

-- a call of the command are these words
pub waits_of : (w : Waiting) (call : Call) (words : List (List ℕ)) → IsOf w call → IsCall call words → Waits w words
waits_of (waiting.Serve serve lenient) call words same is = subst (λ (c : Call). IsCall c words) same is
waits_of (waiting.Drill drill) call words same is =
    let of_drill : IsCall (record { command = Drill drill; lenient = call.lenient }) words = subst (λ (m : Command). IsCall (record { command = m; lenient = call.lenient }) words) same is in
    subst (λ (b : Bool). IsCall (record { command = Drill drill; lenient = b }) words) of_drill.is_command.2 of_drill

-- where no station served, it is an answer of any station
pub as_station : (Serves : Meaning → ServeWords → Outcome → Type 0) (words : List (List ℕ)) (old new : Option YardValue) (number calls : ℕ) (told0 told1 : Option (List ℕ)) (status : Status) → Answers (λ meaning serve outcome. ⊥) words old new number calls told0 told1 status → Answers Serves words old new number calls told0 told1 status
as_station Serves words old new number calls told0 told1 status (replied_to meant text means written) = replied_to meant text means written
as_station Serves words old new number calls told0 told1 status (served serve lenient outcome is serves ends) = absurd serves
as_station Serves words old new number calls told0 told1 status (drilled drill is still uncalled k) = drilled drill is still uncalled k
as_station Serves words old new number calls told0 told1 status (relayed_to lenient is counted k) = relayed_to lenient is counted k
as_station Serves words old new number calls told0 told1 status (judged_by file prefix lenient is k) = judged_by file prefix lenient is k
as_station Serves words old new number calls told0 told1 status (archived_to file lenient is k) = archived_to file lenient is k
as_station Serves words old new number calls told0 told1 status (recalled_from file ask lenient is counted k) = recalled_from file ask lenient is counted k
as_station Serves words old new number calls told0 told1 status (explained call text is explains still uncalled written) = explained call text is explains still uncalled written

-- a yard that is as it was served nobody
pub nobody_served : {Ending : Type 0} (old new : YardSeen Ending) → new ≡ old → ServesNobody old new
nobody_served {Ending = Ending} old new same = record { listened = ap (λ (s : YardSeen Ending). s.listened) same; endings = ap (λ (s : YardSeen Ending). s.endings) same; ending = ap (λ (s : YardSeen Ending). s.last_ending) same }
