mod Begins
mod ClientRuns
mod Mics
mod Reported
mod Runs
mod ServerRuns
mod Texts
