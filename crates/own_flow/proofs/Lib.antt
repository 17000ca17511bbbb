mod Bursts
