-- What `Timeline` keeps and tells of the moments of a record that is done again.
use Rattle.std.specs.Prelude.{Bool, true, false, ℕ, List}
use Rattle.plan_rules.specs.Data.{DomainData}
use Rattle.farm_records.specs.declared.line.RecordedCall.{RecordedCall}
use Rattle.record_following.specs.declared.cursor.RecordCursor.{RecordCursor}
use Rattle.record_following.specs.RecordCursor.{IsMomentAt, IsCursor, GoesOnIn, ComesTo}
use Rattle.lab_timeline.specs.Advance.{IsTimeline, IsOfKept, Begins}

-- a timeline with any other cursor here is a timeline, if it isn't said that it was led there
pub unled : (plan : List DomainData) (lines : List RecordedCall) (opening : RecordCursor) (kept : List RecordCursor)
    (is_led : Bool) (here other : RecordCursor)
    → IsTimeline plan lines opening kept is_led here
    → IsTimeline plan lines opening kept false other
unled plan lines opening kept is_led here other was = record {
  one = was.one;
  opening_is = was.opening_is;
  from = was.from;
  kept_are = was.kept_are;
  here_is = λ never. cc;
}

-- where it begins is of the record
begun_is : (plan : List DomainData) (lines : List RecordedCall) (opening : RecordCursor) (kept : List RecordCursor)
    (is_led : Bool) (here near begun : RecordCursor)
    → IsTimeline plan lines opening kept is_led here → IsOfKept opening kept near → Begins is_led here near begun
    → IsCursor plan lines begun
begun_is plan lines opening kept is_led here near begun was near_is begins =
    begins plan lines was.here_is (near_is plan lines was.opening_is was.kept_are)

-- if a cursor that begins here or at a kept one goes on in the lines, the timeline was led to it
pub led_on : (plan : List DomainData) (lines : List RecordedCall) (opening : RecordCursor) (kept : List RecordCursor)
    (is_led : Bool) (here near begun new : RecordCursor)
    → IsTimeline plan lines opening kept is_led here → IsOfKept opening kept near → Begins is_led here near begun
    → GoesOnIn lines begun new
    → IsTimeline plan lines opening kept true new
led_on plan lines opening kept is_led here near begun new was near_is begins goes = record {
  one = was.one;
  opening_is = was.opening_is;
  from = was.from;
  kept_are = was.kept_are;
  here_is = λ led. goes plan (begun_is plan lines opening kept is_led here near begun was near_is begins);
}

-- and if it comes to an event, it is the moment after that many events
pub come_to : (plan : List DomainData) (lines : List RecordedCall) (opening : RecordCursor) (kept : List RecordCursor)
    (is_led : Bool) (here near begun new : RecordCursor) (event : ℕ)
    → IsTimeline plan lines opening kept is_led here → IsOfKept opening kept near → Begins is_led here near begun
    → ComesTo lines event begun new
    → IsMomentAt plan lines event new.replayed
come_to plan lines opening kept is_led here near begun new event was near_is begins comes =
    comes plan (begun_is plan lines opening kept is_led here near begun was near_is begins)
