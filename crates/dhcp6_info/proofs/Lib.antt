mod Given
mod Lawful
mod NextPoll
mod TakenWords
mod Traffic
