use Rattle.parsed.proofs.Placing.{bare, stays_fit, takes}
use Rattle.parsed.proofs.offers.ParsedCollector.offer.Goals as goal

pub invariant_of-self : goal.invariant_of-self
invariant_of-self c = record { fitting = stays_fit c.args.self.now c.in-Year.is (bare c.put.ensures) }

pub returns-in-Year : goal.returns-in-Year
returns-in-Year c = takes c.args.self.now c.in-Year.is c.in_ok-known.ensures c.ranges.value (bare c.put.ensures)

pub invariant_of-self-in-YearDiv100 : goal.invariant_of-self-in-YearDiv100
invariant_of-self-in-YearDiv100 c = record { fitting = stays_fit c.args.self.now c.in-YearDiv100.is (bare c.put-in-YearDiv100.ensures) }

pub returns-in-YearDiv100 : goal.returns-in-YearDiv100
returns-in-YearDiv100 c = takes c.args.self.now c.in-YearDiv100.is c.in_ok-known.ensures c.ranges.value (bare c.put-in-YearDiv100.ensures)

pub invariant_of-self-in-YearMod100 : goal.invariant_of-self-in-YearMod100
invariant_of-self-in-YearMod100 c = record { fitting = stays_fit c.args.self.now c.in-YearMod100.is (bare c.put-in-YearMod100.ensures) }

pub returns-in-YearMod100 : goal.returns-in-YearMod100
returns-in-YearMod100 c = takes c.args.self.now c.in-YearMod100.is c.in_ok-known.ensures c.ranges.value (bare c.put-in-YearMod100.ensures)

pub invariant_of-self-in-Isoyear : goal.invariant_of-self-in-Isoyear
invariant_of-self-in-Isoyear c = record { fitting = stays_fit c.args.self.now c.in-Isoyear.is (bare c.put-in-Isoyear.ensures) }

pub returns-in-Isoyear : goal.returns-in-Isoyear
returns-in-Isoyear c = takes c.args.self.now c.in-Isoyear.is c.in_ok-known.ensures c.ranges.value (bare c.put-in-Isoyear.ensures)

pub invariant_of-self-in-IsoyearDiv100 : goal.invariant_of-self-in-IsoyearDiv100
invariant_of-self-in-IsoyearDiv100 c = record { fitting = stays_fit c.args.self.now c.in-IsoyearDiv100.is (bare c.put-in-IsoyearDiv100.ensures) }

pub returns-in-IsoyearDiv100 : goal.returns-in-IsoyearDiv100
returns-in-IsoyearDiv100 c = takes c.args.self.now c.in-IsoyearDiv100.is c.in_ok-known.ensures c.ranges.value (bare c.put-in-IsoyearDiv100.ensures)

pub invariant_of-self-in-IsoyearMod100 : goal.invariant_of-self-in-IsoyearMod100
invariant_of-self-in-IsoyearMod100 c = record { fitting = stays_fit c.args.self.now c.in-IsoyearMod100.is (bare c.put-in-IsoyearMod100.ensures) }

pub returns-in-IsoyearMod100 : goal.returns-in-IsoyearMod100
returns-in-IsoyearMod100 c = takes c.args.self.now c.in-IsoyearMod100.is c.in_ok-known.ensures c.ranges.value (bare c.put-in-IsoyearMod100.ensures)

pub invariant_of-self-in-Quarter : goal.invariant_of-self-in-Quarter
invariant_of-self-in-Quarter c = record { fitting = stays_fit c.args.self.now c.in-Quarter.is c.put-in-Quarter.ensures }

pub returns-in-Quarter : goal.returns-in-Quarter
returns-in-Quarter c = takes c.args.self.now c.in-Quarter.is c.in_ok-known.ensures c.ranges.value c.put-in-Quarter.ensures

pub invariant_of-self-in-Month : goal.invariant_of-self-in-Month
invariant_of-self-in-Month c = record { fitting = stays_fit c.args.self.now c.in-Month.is c.put-in-Month.ensures }

pub returns-in-Month : goal.returns-in-Month
returns-in-Month c = takes c.args.self.now c.in-Month.is c.in_ok-known.ensures c.ranges.value c.put-in-Month.ensures

pub invariant_of-self-in-WeekFromSun : goal.invariant_of-self-in-WeekFromSun
invariant_of-self-in-WeekFromSun c = record { fitting = stays_fit c.args.self.now c.in-WeekFromSun.is c.put-in-WeekFromSun.ensures }

pub returns-in-WeekFromSun : goal.returns-in-WeekFromSun
returns-in-WeekFromSun c = takes c.args.self.now c.in-WeekFromSun.is c.in_ok-known.ensures c.ranges.value c.put-in-WeekFromSun.ensures

pub invariant_of-self-in-WeekFromMon : goal.invariant_of-self-in-WeekFromMon
invariant_of-self-in-WeekFromMon c = record { fitting = stays_fit c.args.self.now c.in-WeekFromMon.is c.put-in-WeekFromMon.ensures }

pub returns-in-WeekFromMon : goal.returns-in-WeekFromMon
returns-in-WeekFromMon c = takes c.args.self.now c.in-WeekFromMon.is c.in_ok-known.ensures c.ranges.value c.put-in-WeekFromMon.ensures

pub invariant_of-self-in-Isoweek : goal.invariant_of-self-in-Isoweek
invariant_of-self-in-Isoweek c = record { fitting = stays_fit c.args.self.now c.in-Isoweek.is c.put-in-Isoweek.ensures }

pub returns-in-Isoweek : goal.returns-in-Isoweek
returns-in-Isoweek c = takes c.args.self.now c.in-Isoweek.is c.in_ok-known.ensures c.ranges.value c.put-in-Isoweek.ensures

pub invariant_of-self-in-Weekday : goal.invariant_of-self-in-Weekday
invariant_of-self-in-Weekday c = record { fitting = stays_fit c.args.self.now c.in-Weekday.is c.put-in-Weekday.ensures }

pub returns-in-Weekday : goal.returns-in-Weekday
returns-in-Weekday c = takes c.args.self.now c.in-Weekday.is c.in_ok-known.ensures c.ranges.value c.put-in-Weekday.ensures

pub invariant_of-self-in-Ordinal : goal.invariant_of-self-in-Ordinal
invariant_of-self-in-Ordinal c = record { fitting = stays_fit c.args.self.now c.in-Ordinal.is c.put-in-Ordinal.ensures }

pub returns-in-Ordinal : goal.returns-in-Ordinal
returns-in-Ordinal c = takes c.args.self.now c.in-Ordinal.is c.in_ok-known.ensures c.ranges.value c.put-in-Ordinal.ensures

pub invariant_of-self-in-Day : goal.invariant_of-self-in-Day
invariant_of-self-in-Day c = record { fitting = stays_fit c.args.self.now c.in-Day.is c.put-in-Day.ensures }

pub returns-in-Day : goal.returns-in-Day
returns-in-Day c = takes c.args.self.now c.in-Day.is c.in_ok-known.ensures c.ranges.value c.put-in-Day.ensures

pub invariant_of-self-in-HourDiv12 : goal.invariant_of-self-in-HourDiv12
invariant_of-self-in-HourDiv12 c = record { fitting = stays_fit c.args.self.now c.in-HourDiv12.is c.put-in-HourDiv12.ensures }

pub returns-in-HourDiv12 : goal.returns-in-HourDiv12
returns-in-HourDiv12 c = takes c.args.self.now c.in-HourDiv12.is c.in_ok-known.ensures c.ranges.value c.put-in-HourDiv12.ensures

pub invariant_of-self-in-HourMod12 : goal.invariant_of-self-in-HourMod12
invariant_of-self-in-HourMod12 c = record { fitting = stays_fit c.args.self.now c.in-HourMod12.is c.put-in-HourMod12.ensures }

pub returns-in-HourMod12 : goal.returns-in-HourMod12
returns-in-HourMod12 c = takes c.args.self.now c.in-HourMod12.is c.in_ok-known.ensures c.ranges.value c.put-in-HourMod12.ensures

pub invariant_of-self-in-Minute : goal.invariant_of-self-in-Minute
invariant_of-self-in-Minute c = record { fitting = stays_fit c.args.self.now c.in-Minute.is c.put-in-Minute.ensures }

pub returns-in-Minute : goal.returns-in-Minute
returns-in-Minute c = takes c.args.self.now c.in-Minute.is c.in_ok-known.ensures c.ranges.value c.put-in-Minute.ensures

pub invariant_of-self-in-Second : goal.invariant_of-self-in-Second
invariant_of-self-in-Second c = record { fitting = stays_fit c.args.self.now c.in-Second.is c.put-in-Second.ensures }

pub returns-in-Second : goal.returns-in-Second
returns-in-Second c = takes c.args.self.now c.in-Second.is c.in_ok-known.ensures c.ranges.value c.put-in-Second.ensures

pub invariant_of-self-in-Nanosecond : goal.invariant_of-self-in-Nanosecond
invariant_of-self-in-Nanosecond c = record { fitting = stays_fit c.args.self.now c.in-Nanosecond.is c.put-in-Nanosecond.ensures }

pub returns-in-Nanosecond : goal.returns-in-Nanosecond
returns-in-Nanosecond c = takes c.args.self.now c.in-Nanosecond.is c.in_ok-known.ensures c.ranges.value c.put-in-Nanosecond.ensures

pub invariant_of-self-in-Timestamp : goal.invariant_of-self-in-Timestamp
invariant_of-self-in-Timestamp c = record { fitting = stays_fit c.args.self.now c.in-Timestamp.is (bare c.put-in-Timestamp.ensures) }

pub returns-in-Timestamp : goal.returns-in-Timestamp
returns-in-Timestamp c = takes c.args.self.now c.in-Timestamp.is c.in_ok-known.ensures c.ranges.value (bare c.put-in-Timestamp.ensures)

pub invariant_of-self-in-Offset : goal.invariant_of-self-in-Offset
invariant_of-self-in-Offset c = record { fitting = stays_fit c.args.self.now c.in-Offset.is (bare c.put-in-Offset.ensures) }

pub returns-in-Offset : goal.returns-in-Offset
returns-in-Offset c = takes c.args.self.now c.in-Offset.is c.in_ok-known.ensures c.ranges.value (bare c.put-in-Offset.ensures)
