-- Request No. 5: "From fresh tables and with dispatcher calls only, a sentence accepted for a job is handed out only to the row bound to its
-- tag."
--
--   "From fresh tables and with dispatcher     `FromFresh`: cs is any sequence of calls, any operands, from w, fresh tables of any sizes and
--   calls only"                                one made dispatcher
--   "is handed out .. to the row"              `handed_to (run w cs) r call ≡ m ∷ []`: the call that comes then is a receive or a park by row r
--                                              and one of its slots, and m is the message in its answer
--   "for a job"                                `job`: one opening among cs, for a tag, that took a place which no later call of cs closed
--   "a sentence accepted"                      `next`: of all the messages accepted for this job since its opening, in their order, m is the
--                                              one after those that were handed out from it; so m was sent for it, whole, its stamp
--                                              included, and comes once; by the extractor's row, which alone has the job's send id
--                                              (`sender`, and Own)
--   "the row bound to its tag"                 `bound`: in the dispatcher as it was made, the variant of the job's tag has row r
--
-- Request No. 10: "A filter cannot tell which row wrote a sentence." It can: the stamp that it is handed is the row that the job's opening
-- named as the extractor's, `writer`.
use Rattle.std.specs.Prelude.{◌≡◌, List, [], ◌∷◌, ◌++◌, ℕ}
use Rattle.ipc_rules.specs.declared.state.Message.{Message}
use Rattle.dispatcher_rules.specs.declared.state.Desk.{Desk}
use Rattle.isolation.specs.Runs.{JobCall, run, FromFresh}
use Rattle.isolation.specs.Jobs.{BoundTo, JobOf, since, handed, handed_to, all_accepted, all_handed}

-- after the calls cs from w, the call hands m out to row r from one job: the job's tag is bound to that row, and m is the next message that
-- was accepted for it
pub record FromItsJob (w : Desk) (cs : List JobCall) (call : JobCall) (r : ℕ) (m : Message) : Type 0 where
  pub place : ℕ
  pub job : JobOf w cs place
  pub bound : BoundTo w.dispatcher job.tag r
  pub from : handed (run w cs) place call ≡ m ∷ []
  pub rest : List Message
  pub next : all_accepted (since job) place job.later ≡ all_handed (since job) place job.later ++ (m ∷ rest)
  pub writer : m.row ≡ job.extractor

abbrev pub Isolation : Type 0
Isolation = FromFresh (λ w cs. (call : JobCall) (r : ℕ) (m : Message) → handed_to (run w cs) r call ≡ m ∷ [] → FromItsJob w cs call r m)
